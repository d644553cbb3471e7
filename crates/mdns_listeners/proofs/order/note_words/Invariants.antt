use Rattle.std.proofs.Common.{◌≡◌}
use Rattle.mdns_listeners.proofs.order.note_words.Given as goal

abbrev pub invariant-loop-one : goal.invariant-loop-one
invariant-loop-one l = l.kept ≡ l.fn.kept
