use Rattle.std.proofs.Common.{◌≡◌, ◌-◌, ◌≤◌, length}
use Rattle.std.specs.List.Sorted.{IsPermutation}
use Rattle.join_map.specs.Blocks.{places_of}
use Rattle.join_map.proofs.order.sort_ties.Given as goal

abbrev pub invariant-loop-begin : goal.invariant-loop-begin
invariant-loop-begin g l = IsPermutation (places_of l.initial.order) (places_of l.order) × (l.begin ≤ length l.order)
    × (length l.order ≡ length l.initial.order)

abbrev pub decreases-loop-begin : goal.decreases-loop-begin
decreases-loop-begin g l = length l.order - l.begin
