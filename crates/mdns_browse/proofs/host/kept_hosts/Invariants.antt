use Rattle.std.proofs.Common.{◌≡◌, ◌++◌, drop, map}
use Rattle.std.specs.List.{filter}
use Rattle.mdns_cache.specs.LentRecords.{last_lent}
use Rattle.mdns_browse.specs.{Hosts.{AreByTarget, host_lent, hosts_in, keeps_host, services_in}, Services.{AreAscending}}
use Rattle.mdns_browse.proofs.HostLemmas.{hosts_left}
use Rattle.mdns_browse.proofs.host.kept_hosts.Given as goal

abbrev pub invariant-loop-row : goal.invariant-loop-row
invariant-loop-row l =
    AreAscending (map last_lent l.rows)
    → AreByTarget (services_in (map last_lent l.rows)) l.services
    → map host_lent l.hosts.items ++ hosts_left l.about (map last_lent l.rows) l.before (map last_lent (drop l.row-index l.rows))
    ≡ filter (keeps_host l.about (map last_lent l.rows)) (hosts_in (map last_lent l.rows))
