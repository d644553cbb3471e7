use Rattle.mdns_lives.proofs.{LawLemmas.{one_list_among}, SomeLivesLemmas.{some_lives}}
use Rattle.mdns_lives.proofs.laws.one_list.Goals as goal

pub returns-clause-some : goal.returns-clause-some
returns-clause-some c = λ heard key.
    some_lives c.one_last_hearing.ensures.some heard key (c.no_flush_is_missed.ensures.moments heard key.set)

pub returns-clause-same : goal.returns-clause-same
returns-clause-same c = one_list_among
