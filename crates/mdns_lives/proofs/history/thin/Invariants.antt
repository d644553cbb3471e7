use Rattle.std.proofs.Common.{◌≡◌, ◌+◌, ◌-◌, ◌≤◌, ◌⊎◌, ◌++◌, length, take, drop, vec_capacity}
use Rattle.mdns_lives.specs.{History.{AreInOrder}, Seconds.{IsThin, AreEndsOf}}
use Rattle.mdns_lives.proofs.history.thin.Given as goal

-- the hearings that are kept and those that are left are in order, and all others are between them
abbrev pub invariant-loop-place : goal.invariant-loop-place
invariant-loop-place l = record {
  kept : l.kept ≤ l.place;
  len : length l.items.items ≡ length l.initial.items.items;
  capacity : vec_capacity l.items ≡ vec_capacity l.fn.items;
  left : (l.kept ≡ l.place) ⊎ (32 ≤ l.kept + (length l.items.items - l.place));
  thin : IsThin (take l.kept l.items.items) (l.kept + (length l.items.items - l.place));
  in_order : AreInOrder (take l.kept l.items.items ++ drop l.place l.items.items);
  ends : AreEndsOf l.fn.items.items (take l.kept l.items.items ++ drop l.place l.items.items);
}
