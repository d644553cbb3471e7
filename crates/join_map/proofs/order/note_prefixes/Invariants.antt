use Rattle.std.proofs.Common.{◌≡◌, length}
use Rattle.join_map.specs.Blocks.{places_of}
use Rattle.join_map.proofs.order.note_prefixes.Given as goal

abbrev pub invariant-loop-at : goal.invariant-loop-at
invariant-loop-at g l = (places_of l.order ≡ places_of l.initial.order) × (length l.order ≡ length l.initial.order)
