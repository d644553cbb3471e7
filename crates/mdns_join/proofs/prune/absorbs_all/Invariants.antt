use Rattle.std.proofs.Common.{◌≡◌, ℕ, true, take}
use Rattle.mdns_join.specs.{Kept.{has, IsAbsorbed}, Nanos.{nanos_of}}
use Rattle.mdns_join.proofs.prune.absorbs_all.Given as goal

abbrev pub invariant-loop-moment : goal.invariant-loop-moment
invariant-loop-moment l = (m : ℕ) → has (nanos_of (take l.moment-index l.others)) m ≡ true → IsAbsorbed (nanos_of l.items) m
