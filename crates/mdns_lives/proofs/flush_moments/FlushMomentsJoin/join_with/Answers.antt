use Rattle.std.proofs.{Common.{arith}, lemmas.List.{map-append}}
use Rattle.mdns_join.specs.{laws.Kept.{IsAscending-ascending}}
use Rattle.mdns_join.proofs.RefusedLemmas.{part_refused}
use Rattle.mdns_cache.proofs.BetweenLemmas.{on_err_any}
use Rattle.mdns_lives.specs.laws.Flushes.{union-laws}
use Rattle.mdns_lives.proofs.FlushLemmas.{union-is}
use Rattle.mdns_lives.proofs.flush_moments.FlushMomentsJoin.join_with.Goals as goal

pub returns-in_err-extend_from_slice-clause-err : goal.returns-in_err-extend_from_slice-clause-err
returns-in_err-extend_from_slice-clause-err c = grind (arith, part_refused, union-laws, on_err_any)

pub invariant_of-self-2 : goal.invariant_of-self-2
invariant_of-self-2 c = grind (arith, IsAscending-ascending)

pub returns-clause-ok : goal.returns-clause-ok
returns-clause-ok c = grind (arith, map-append, union-is)
