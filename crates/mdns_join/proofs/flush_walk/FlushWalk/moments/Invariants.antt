use Rattle.std.proofs.Common.{length}
use Rattle.mdns_join.specs.FlushWalk.{with_next}
use Rattle.mdns_join.proofs.FlushWalkLemmas.{IsLeft}
use Rattle.mdns_join.proofs.flush_walk.FlushWalk.moments.Given as goal

abbrev pub invariant-loop-self : goal.invariant-loop-self
invariant-loop-self g l = IsLeft l.set l.fn.self (with_next l.self-inside.next l.self-inside.rest)

abbrev pub decreases-loop-self : goal.decreases-loop-self
decreases-loop-self g l = length (with_next l.self-inside.next l.self-inside.rest)
