use Rattle.std.proofs.Common.{◌≡◌, ◌++◌, drop, map}
use Rattle.std.specs.{List.{flat_map}, String.{string_bytes}}
use Rattle.mdns_cache.specs.LentRecords.{last_lent}
use Rattle.mdns_browse.specs.{Csv.{instance_csv}, Given.{given_lent}, Services.{AreAscending}}
use Rattle.mdns_browse.proofs.InstanceLemmas.{shown_in}
use Rattle.mdns_browse.proofs.instance_forms.push_csv_instances.Given as goal

abbrev pub invariant-loop-row : goal.invariant-loop-row
invariant-loop-row l =
    AreAscending (map last_lent l.rows)
    → string_bytes l.to ++ flat_map instance_csv (shown_in (map last_lent l.rows) (map given_lent (drop l.row-index l.given)))
    ≡ string_bytes l.initial.to ++ flat_map instance_csv (shown_in (map last_lent l.rows) (map given_lent l.given))
