use Rattle.dns_name.proofs.PointerLemmas.{Remembered}
use Rattle.dns_name.proofs.pointer.push_ends.Given as goal

abbrev pub invariant-loop-offset : goal.invariant-loop-offset
invariant-loop-offset l = Remembered l.message l.ends.items l.offset
