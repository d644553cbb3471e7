use Rattle.std.proofs.Common.{◌-◌, ◌≡◌, take}
use Rattle.memory.proofs.same.same_bytes.Given as goal

abbrev pub invariant-loop-at : goal.invariant-loop-at
invariant-loop-at l = take l.at l.one ≡ take l.at l.other

abbrev pub decreases-loop-at : goal.decreases-loop-at
decreases-loop-at l = l.last - l.at
