use Rattle.mdns_lives.proofs.LiveLifeLemmas.{AreLiveRecords-lives, last_life}
use Rattle.mdns_lives.proofs.laws.live_lives_are_records.Goals as goal
use Rattle.std.proofs.Common.{rules}

pub returns-clause-records : goal.returns-clause-records
returns-clause-records c = search (rules, AreLiveRecords-lives)

pub returns-clause-last : goal.returns-clause-last
returns-clause-last c = λ heard rows end none all.
    last_life c.one_end.ensures.some c.live_until_end.ensures c.one_end.ensures.same heard end none rows all
