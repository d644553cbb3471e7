use Rattle.std.proofs.Common.{◌≡◌, drop, map}
use Rattle.std.specs.List.{flat_map}
use Rattle.mdns_cache.specs.LentRecords.{last_lent}
use Rattle.mdns_browse.specs.{About.{asks_for_any, server_terms}, Services.{AreAscending, servers_in, servers_of}}
use Rattle.mdns_browse.proofs.about_services.is_in_servers.Given as goal

abbrev pub invariant-loop-row : goal.invariant-loop-row
invariant-loop-row l =
    AreAscending (map last_lent l.rows)
    → asks_for_any l.about (flat_map server_terms (servers_of (map last_lent l.rows) (map last_lent (drop l.row-index l.row-items))))
    ≡ asks_for_any l.about (flat_map server_terms (servers_in (map last_lent l.rows) l.name))
