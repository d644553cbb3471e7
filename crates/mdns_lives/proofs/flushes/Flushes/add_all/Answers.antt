use Rattle.std.proofs.{Common.{arith}, lemmas.List.{map-append}}
use Rattle.mdns_join.specs.laws.Kept.{has-ascending}
use Rattle.mdns_lives.proofs.FlushLemmas.{ascending-both}
use Rattle.mdns_lives.proofs.flushes.Flushes.add_all.Goals as goal

pub returns-clause-ok : goal.returns-clause-ok
returns-clause-ok c = grind (arith, map-append, ascending-both, has-ascending)
