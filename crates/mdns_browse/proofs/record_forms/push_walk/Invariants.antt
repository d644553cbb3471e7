use Rattle.std.proofs.Common.{◌≡◌, ◌++◌}
use Rattle.std.specs.{List.{flat_map}, String.{string_bytes}}
use Rattle.mdns_browse.specs.{Forms.{record_text}, Report.{records_about}}
use Rattle.mdns_browse.proofs.record_forms.push_walk.Given as goal

abbrev pub invariant-loop-row : goal.invariant-loop-row
invariant-loop-row l =
    string_bytes l.to.text ++ flat_map (record_text l.form) (records_about l.about l.row-iterator)
    ≡ string_bytes l.initial.to.text ++ flat_map (record_text l.form) (records_about l.about l.fn.walk)
