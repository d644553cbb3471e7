use Rattle.std.proofs.Common.{◌≡◌, drop, map}
use Rattle.mdns_cache.specs.LentRecords.{last_lent}
use Rattle.mdns_browse.specs.{About.{asks_for_any}, Hosts.{served_terms, served_lent}, Services.{AreAscending}}
use Rattle.mdns_browse.proofs.host.is_in_services.Given as goal

abbrev pub invariant-loop-service : goal.invariant-loop-service
invariant-loop-service l =
    AreAscending (map last_lent l.rows)
    → asks_for_any l.about (served_terms (map last_lent l.rows) (map served_lent (drop l.service-index l.services)))
    ≡ asks_for_any l.about (served_terms (map last_lent l.rows) (map served_lent l.services))
