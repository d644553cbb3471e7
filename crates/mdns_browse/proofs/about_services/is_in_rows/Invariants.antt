use Rattle.std.proofs.Common.{◌≡◌, drop, map}
use Rattle.std.specs.List.{flat_map}
use Rattle.mdns_cache.specs.LentRecords.{last_lent}
use Rattle.mdns_browse.specs.{About.{asks_for_any, data_terms}, Services.{body_of}}
use Rattle.mdns_browse.proofs.about_services.is_in_rows.Given as goal

abbrev pub invariant-loop-row : goal.invariant-loop-row
invariant-loop-row l =
    asks_for_any l.about (flat_map data_terms (map body_of (map last_lent (drop l.row-index l.rows))))
    ≡ asks_for_any l.about (flat_map data_terms (map body_of (map last_lent l.rows)))
