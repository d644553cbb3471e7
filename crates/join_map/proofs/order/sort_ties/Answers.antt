use Rattle.std.proofs.{Common.{arith, length-drop}, lemmas.List.Sorted.{IsPermutation-trans}}
use Rattle.join_map.proofs.OrderLemmas.{part-length, part-sorted}
use Rattle.join_map.proofs.order.sort_ties.Goals as goal

pub loop-begin-preserved-then-end-begin-gt1 : goal.loop-begin-preserved-then-end-begin-gt1
loop-begin-preserved-then-end-begin-gt1 g c = grind (arith, part-length, IsPermutation-trans, part-sorted, length-drop)
