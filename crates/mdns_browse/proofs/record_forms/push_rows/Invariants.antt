use Rattle.std.proofs.Common.{◌≡◌, ◌++◌, map, take}
use Rattle.std.specs.{List.{flat_map}, String.{string_bytes}}
use Rattle.mdns_cache.specs.LentRecords.{live_record_lent}
use Rattle.mdns_browse.specs.Forms.{record_text}
use Rattle.mdns_browse.proofs.record_forms.push_rows.Given as goal

abbrev pub invariant-loop-row : goal.invariant-loop-row
invariant-loop-row l =
    string_bytes l.to.text ≡ string_bytes l.initial.to.text ++ flat_map (record_text l.form) (map live_record_lent (take l.row-index l.rows))
