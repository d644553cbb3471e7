use Rattle.join_map.specs.Blocks.{places_of, IsOrder}
use Rattle.join_map.proofs.order.all_places.Given as goal

abbrev pub invariant-loop-place : goal.invariant-loop-place
invariant-loop-place l = IsOrder l.place (places_of l.order.items)
