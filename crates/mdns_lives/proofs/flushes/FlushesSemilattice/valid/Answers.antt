use Rattle.std.proofs.Common.{subst}
use Rattle.mdns_join.specs.{Kept.{IsAscending}, laws.Kept.{IsAscending-ascending}, Nanos.{nanos_of}}
use Rattle.mdns_lives.proofs.flushes.FlushesSemilattice.valid.Goals as goal

pub returns : goal.returns
returns c = subst IsAscending c.self.view_is (IsAscending-ascending (nanos_of c.self.inside.items.items))
