use Rattle.std.proofs.Common.{◌≤◌, ◌-◌, length, take, drop}
use Rattle.join_map.specs.Blocks.{AllAbove, AllBelow, entries_of}
use Rattle.join_map.proofs.blocks.Blocks.block_of.Given as goal

abbrev pub invariant-loop-low : goal.invariant-loop-low
invariant-loop-low g l = (l.low ≤ l.high) × (l.high ≤ length l.self)
    × AllBelow g.K.Ord.cmp l.key (entries_of (take (l.low - 1) l.self))
    × AllAbove g.K.Ord.cmp l.key (entries_of (drop l.high l.self))

abbrev pub decreases-loop-low : goal.decreases-loop-low
decreases-loop-low g l = l.high - l.low
