use Rattle.std.proofs.Common.{length, ◌-◌, ◌≤◌, ◌≡◌}
use Rattle.std.specs.List.Sorted.{IsPermutation}
use Rattle.mdns_listeners.specs.declared.order.TheConstants.{FARTHEST}
use Rattle.mdns_listeners.proofs.order.+sort_by_words.Given as goal

abbrev pub decreases-sort_by_words : goal.decreases-sort_by_words
decreases-sort_by_words l = FARTHEST - l.from

abbrev pub invariant-loop-begin : goal.invariant-loop-begin
invariant-loop-begin l = IsPermutation l.fn.kept l.kept × (l.begin ≤ length l.kept) × (length l.kept ≡ length l.initial.kept)

abbrev pub decreases-loop-begin : goal.decreases-loop-begin
decreases-loop-begin l = length l.kept - l.begin
