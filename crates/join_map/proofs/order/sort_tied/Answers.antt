use Rattle.std.proofs.{Common.{arith}, lemmas.List.Sorted.{IsPermutation-map}}
use Rattle.join_map.proofs.order.sort_tied.Goals as goal

pub returns : goal.returns
returns g c = grind (arith, IsPermutation-map)
