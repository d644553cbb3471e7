use Rattle.std.proofs.Common.{◌≡◌, ◌++◌, drop, map, get_or, string_bytes}
use Rattle.mdns_listeners.specs.{Fields.{field_lent}, RowSheet.{cells_of}, Table.{cells_from}}
use Rattle.mdns_listeners.proofs.row_sheet.push_columns.Given as goal

-- the cells that were appended, and those that are left
abbrev pub invariant-loop-column : goal.invariant-loop-column
invariant-loop-column l =
    string_bytes l.to
    ++ cells_from (λ k. get_or l.widths k 0) l.column (cells_of (map field_lent (drop l.column l.fields)))
    ≡ string_bytes l.fn.to ++ cells_from (λ k. get_or l.widths k 0) 0 (cells_of (map field_lent l.fields))
