use Rattle.std.proofs.Common.{◌≡◌, ◌++◌, drop, map}
use Rattle.mdns_cache.specs.LentRecords.{last_lent}
use Rattle.mdns_browse.specs.{Given.{given_lent}, Hosts.{served_lent}, Services.{AreAscending}}
use Rattle.mdns_browse.proofs.HostLemmas.{services_given}
use Rattle.mdns_browse.proofs.host.services_of.Given as goal

abbrev pub invariant-loop-row : goal.invariant-loop-row
invariant-loop-row l =
    AreAscending (map last_lent l.rows)
    → map served_lent l.services.items ++ services_given (map last_lent l.rows) (map given_lent (drop l.row-index l.given))
    ≡ services_given (map last_lent l.rows) (map given_lent l.given)
