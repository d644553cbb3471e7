use Rattle.std.proofs.Common.{◌∷◌, drop}
use Rattle.mdns_lives.specs.History.{AreInOrder}
use Rattle.mdns_lives.proofs.history.ascend.Given as goal

-- if the hearings that are left are in order behind the last one, all are
abbrev pub invariant-loop-next : goal.invariant-loop-next
invariant-loop-next l = AreInOrder (l.last ∷ drop l.next-index l.rest) → AreInOrder l.items
