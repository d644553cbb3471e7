use Rattle.std.proofs.Common.{rules}
use Rattle.mdns_lives.proofs.EndsLemmas.{AreLivesBy-ends, AreLivesBy-from_ends}
use Rattle.mdns_lives.proofs.laws.lives_by_ends.Goals as goal

pub returns : goal.returns
returns c = search (rules, AreLivesBy-ends, AreLivesBy-from_ends)
