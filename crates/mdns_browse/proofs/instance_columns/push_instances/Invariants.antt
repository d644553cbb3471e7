use Rattle.std.proofs.Common.{◌≡◌, ◌++◌, [], drop, map}
use Rattle.std.specs.String.{string_bytes}
use Rattle.mdns_cache.specs.LentRecords.{last_lent}
use Rattle.mdns_browse.specs.{Columns.{rows_by_type}, Given.{given_lent}, Services.{AreAscending}}
use Rattle.mdns_browse.proofs.InstanceLemmas.{shown_in}
use Rattle.mdns_browse.proofs.instance_columns.push_instances.Given as goal

abbrev pub invariant-loop-row : goal.invariant-loop-row
invariant-loop-row l =
    AreAscending (map last_lent l.rows)
    → (l.sheet.width ≡ l.initial.sheet.width) × (l.sheet.now ≡ l.initial.sheet.now)
    × (string_bytes l.sheet.text
    ++ rows_by_type l.sheet.width l.sheet.now.nanos l.before (shown_in (map last_lent l.rows) (map given_lent (drop l.row-index l.given)))
    ≡ string_bytes l.initial.sheet.text
    ++ rows_by_type l.sheet.width l.sheet.now.nanos [] (shown_in (map last_lent l.rows) (map given_lent l.given)))
