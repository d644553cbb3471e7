use Rattle.std.proofs.Common.{◌≡◌, map, take}
use Rattle.mdns_join.specs.Nanos.{nanos_of}
use Rattle.mdns_lives.specs.{Changes.{begins_in}, LentLives.{row_lent}}
use Rattle.mdns_lives.proofs.changes.beginnings.Given as goal

abbrev pub invariant-loop-row : goal.invariant-loop-row
invariant-loop-row l = nanos_of l.begun.items ≡ begins_in (map row_lent (take l.row-index l.set))
