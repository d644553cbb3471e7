use Rattle.std.proofs.Common.{◌≤◌, ◌-◌, length, take, drop}
use Rattle.join_map.specs.Blocks.{AllAbove, AllBelow, block_at}
use Rattle.join_map.proofs.blocks.Blocks.offset_of.Given as goal

abbrev pub invariant-loop-low : goal.invariant-loop-low
invariant-loop-low g l = (l.low ≤ l.high) × (l.high ≤ length (block_at l.self l.block))
    × AllBelow g.K.Ord.cmp l.key (take l.low (block_at l.self l.block))
    × AllAbove g.K.Ord.cmp l.key (drop l.high (block_at l.self l.block))

abbrev pub decreases-loop-low : goal.decreases-loop-low
decreases-loop-low g l = l.high - l.low
