use Rattle.std.proofs.{Common.{arith}}
use Rattle.mdns_lives.proofs.{SortedLemmas.{AreInOrder_from_sorted}}
use Rattle.mdns_lives.proofs.ThinLemmas.{AreEndsOf-moved}
use Rattle.mdns_lives.proofs.history.thin.Goals as goal

pub loop-place-init : goal.loop-place-init
loop-place-init c = grind (arith, AreInOrder_from_sorted, AreEndsOf-moved)
