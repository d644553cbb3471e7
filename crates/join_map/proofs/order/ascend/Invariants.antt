use Rattle.std.proofs.Common.{◌<◌, ◌∷◌, length, drop}
use Rattle.join_map.specs.Blocks.{AllWithin}
use Rattle.join_map.proofs.OrderLemmas.{Ascend}
use Rattle.join_map.proofs.order.ascend.Given as goal

abbrev pub invariant-loop-place : goal.invariant-loop-place
invariant-loop-place g l = (l.last < length l.entries) × AllWithin (length l.entries) (drop l.place-index l.others)
    × (Ascend g.met.K.Ord.total g.met.K.Copied.exact l.entries (l.last ∷ drop l.place-index l.others)
    → Ascend g.met.K.Ord.total g.met.K.Copied.exact l.entries l.places)
