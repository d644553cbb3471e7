use Rattle.std.proofs.Common.{sym, subst}
use Rattle.mdns_join.specs.{Kept.{IsAscending}, laws.Kept.{IsAscending-ascending}, Nanos.{nanos_of}}
use Rattle.mdns_lives.proofs.flush_moments.FlushMoments.from_unsorted.Goals as goal

pub invariant_of-result : goal.invariant_of-result
invariant_of-result c = subst IsAscending (sym c.sort.ensures) (IsAscending-ascending (nanos_of c.args.items.items))
