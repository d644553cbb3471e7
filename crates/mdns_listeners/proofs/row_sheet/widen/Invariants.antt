use Rattle.std.proofs.Common.{◌≡◌, take, map}
use Rattle.mdns_listeners.specs.{Fields.{field_lent}, RowSheet.{cells_of, widened}}
use Rattle.mdns_listeners.proofs.row_sheet.widen.Given as goal

abbrev pub invariant-loop-column : goal.invariant-loop-column
invariant-loop-column l =
    l.widths.items ≡ widened l.fn.widths.items (cells_of (map field_lent (take l.column l.fields)))
