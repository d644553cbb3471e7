use Rattle.std.proofs.Common.{take}
use Rattle.mdns_cache.specs.Contents.{StandsFor}
use Rattle.mdns_cache.proofs.plan.hear_all.Given as goal

abbrev pub invariant-loop-hearing : goal.invariant-loop-hearing
invariant-loop-hearing l = StandsFor l.cache (take l.hearing-index l.hearings)
