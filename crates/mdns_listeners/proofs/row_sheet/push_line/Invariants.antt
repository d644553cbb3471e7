use Rattle.std.proofs.Common.{◌≡◌, ◌++◌, map, take, string_bytes}
use Rattle.std.specs.List.{flat_map}
use Rattle.mdns_listeners.specs.{Fields.{Field, field_lent}, Values.{word_text}}
use Rattle.mdns_listeners.proofs.row_sheet.push_line.Given as goal

abbrev pub invariant-loop-field : goal.invariant-loop-field
invariant-loop-field l =
    string_bytes l.to
    ≡ string_bytes l.fn.to ++ flat_map (λ (f : Field). f.words ++ word_text f.value) (map field_lent (take l.field-index l.fields))
