use Rattle.std.proofs.Common.{◌≡◌, ◌++◌, length}
use Rattle.join_map.specs.Blocks.{entries_of, AllFilled}
use Rattle.join_map.proofs.order.blocks_of.Given as goal

abbrev pub invariant-loop-rest : goal.invariant-loop-rest
invariant-loop-rest l = (entries_of l.blocks.items ++ l.rest ≡ l.places) × AllFilled l.blocks.items

abbrev pub decreases-loop-rest : goal.decreases-loop-rest
decreases-loop-rest l = length l.rest
