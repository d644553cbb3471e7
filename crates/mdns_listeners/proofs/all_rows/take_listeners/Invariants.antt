use Rattle.std.proofs.Common.{◌≡◌, drop, map, string_bytes}
use Rattle.std.specs.List.{enumerate_from, fold}
use Rattle.mdns_listeners.specs.{AllRows.{listener_at}, RowSheet.{taken}}
use Rattle.mdns_listeners.proofs.all_rows.take_listeners.Given as goal

-- the sheet after the rows so far, and after those that are left
abbrev pub invariant-loop-index : goal.invariant-loop-index
invariant-loop-index l =
    fold taken l.sheet (map (listener_at (map string_bytes l.names)) (enumerate_from l.index (drop l.index l.rows)))
    ≡ fold taken l.fn.sheet (map (listener_at (map string_bytes l.names)) (enumerate_from 0 l.rows))
