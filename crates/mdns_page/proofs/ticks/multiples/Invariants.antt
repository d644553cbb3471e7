use Rattle.mdns_page.proofs.TickLemmas.{AreMultiples}
use Rattle.mdns_page.proofs.ticks.multiples.Given as goal

abbrev pub invariant-loop-index : goal.invariant-loop-index
invariant-loop-index l = AreMultiples l.step l.low l.high l.index l.found.items
