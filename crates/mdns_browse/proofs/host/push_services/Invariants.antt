use Rattle.std.proofs.Common.{◌≡◌, ◌++◌, drop, map}
use Rattle.mdns_cache.specs.LentRecords.{last_lent}
use Rattle.mdns_browse.specs.{Hosts.{served_lent, services_at}, Services.{AreAscending, instance_in}}
use Rattle.mdns_browse.proofs.HostLemmas.{served_by}
use Rattle.mdns_browse.proofs.host.push_services.Given as goal

abbrev pub invariant-loop-row : goal.invariant-loop-row
invariant-loop-row l =
    AreAscending (map last_lent l.rows)
    → map served_lent l.to.items ++ served_by (map last_lent l.rows) l.name (map last_lent (drop l.row-index l.row-items))
    ≡ map served_lent l.initial.to.items ++ services_at (instance_in (map last_lent l.rows) l.name)
