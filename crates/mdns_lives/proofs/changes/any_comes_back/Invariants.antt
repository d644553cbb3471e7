use Rattle.std.proofs.Common.{◌≡◌, drop, map}
use Rattle.std.specs.List.{list_any}
use Rattle.mdns_join.specs.Nanos.{nanos_of}
use Rattle.mdns_lives.specs.{Changes.{comes_back}, LentLives.{row_lent}}
use Rattle.mdns_lives.proofs.changes.any_comes_back.Given as goal

-- the rows that are left decide
abbrev pub invariant-loop-row : goal.invariant-loop-row
invariant-loop-row l = list_any (comes_back l.window (nanos_of l.begun)) (map row_lent (drop l.row-index l.set))
    ≡ list_any (comes_back l.window (nanos_of l.begun)) (map row_lent l.set)
