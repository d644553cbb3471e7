use Rattle.std.proofs.Common.{◌≡◌, map, take}
use Rattle.mdns_listeners.specs.KeptMessage.{told_of_rows, filled}
use Rattle.mdns_listeners.proofs.rows.fill.Given as goal

abbrev pub invariant-loop-noted : goal.invariant-loop-noted
invariant-loop-noted l = l.rows ≡ map (filled (told_of_rows l.fn.rows l.numbers (take l.noted-index l.times))) l.fn.rows
