use Rattle.std.proofs.Common.{◌≡◌, ◌++◌, map, take}
use Rattle.std.specs.{List.{flat_map}, String.{string_bytes}}
use Rattle.mdns_cache.specs.LentRecords.{last_lent}
use Rattle.mdns_browse.specs.{RecordShown.{shown_words, spaced_by}, Services.{body_of}}
use Rattle.mdns_browse.proofs.host_forms.push_shown_addresses.Given as goal

abbrev pub invariant-loop-row : goal.invariant-loop-row
invariant-loop-row l =
    string_bytes l.to ≡ string_bytes l.initial.to
    ++ spaced_by l.gap (flat_map (λ row. shown_words (body_of row)) (map last_lent (take l.row-index l.rows)))
