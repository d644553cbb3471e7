use Rattle.std.proofs.Common.{◌≡◌, drop, map, string_bytes}
use Rattle.std.specs.List.{fold}
use Rattle.mdns_listeners.specs.{AllRows.{pair_at}, RowSheet.{taken}}
use Rattle.mdns_listeners.proofs.all_rows.take_pairs.Given as goal

-- the sheet after the rows so far, and after those that are left
abbrev pub invariant-loop-row : goal.invariant-loop-row
invariant-loop-row l =
    fold taken l.sheet (map (pair_at l.sheet.form (map string_bytes l.names)) (drop l.row-index l.rows))
    ≡ fold taken l.fn.sheet (map (pair_at l.fn.sheet.form (map string_bytes l.names)) l.rows)
