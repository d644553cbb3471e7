use Rattle.std.proofs.Common.{◌≡◌, ◌++◌, drop, map, true, string_bytes}
use Rattle.mdns_browse.specs.Json.{parted}
use Rattle.mdns_listeners.specs.{Fields.{field_lent}, RowSheet.{member_text}}
use Rattle.mdns_listeners.proofs.row_sheet.push_object.Given as goal

-- the members that were appended, and those that are left
abbrev pub invariant-loop-field : goal.invariant-loop-field
invariant-loop-field l =
    string_bytes l.to ++ parted l.first (map member_text (map field_lent (drop l.field-index l.fields)))
    ≡ string_bytes l.initial.to ++ parted true (map member_text (map field_lent l.fields))
