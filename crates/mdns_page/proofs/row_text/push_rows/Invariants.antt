use Rattle.std.proofs.Common.{◌≡◌, ◌++◌, map, take}
use Rattle.std.specs.{List.{flat_map}, String.{string_bytes}}
use Rattle.mdns_page.specs.{Html.{isolated}, Timeline.{counted_lent, row_text}}
use Rattle.mdns_page.proofs.row_text.push_rows.Given as goal

-- the rows so far were appended
abbrev pub invariant-loop-row : goal.invariant-loop-row
invariant-loop-row l =
    string_bytes l.to ≡ string_bytes l.initial.to ++ flat_map (row_text isolated l.part l.look)
    (map counted_lent (take l.row-index l.rows))
