use Rattle.mdns_listeners.proofs.BlankLemmas.{BlankRows}
use Rattle.mdns_listeners.proofs.rows.blank_rows.Given as goal

abbrev pub invariant-loop-one : goal.invariant-loop-one
invariant-loop-one l = BlankRows l.fn.kept.items l.yielded l.one-iterator.rest.items l.rows.items l.numbers
