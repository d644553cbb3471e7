use Rattle.std.proofs.Common.{◌≡◌, ◌+◌, length, take, vec_capacity}
use Rattle.mdns_lives.proofs.history.with_each.Given as goal

-- the hearings so far are copied, in the same room
abbrev pub invariant-loop-item : goal.invariant-loop-item
invariant-loop-item l = record {
  items : l.copied.items ≡ take l.item-index l.items;
  capacity : vec_capacity l.copied ≡ length l.items + length l.moments;
}
