use Rattle.std.proofs.Common.{◌≡◌, ◌++◌, drop, map}
use Rattle.mdns_cache.specs.LentRecords.{last_lent}
use Rattle.mdns_browse.specs.Services.{AreAscending, servers_in, servers_of}
use Rattle.mdns_browse.proofs.services.servers.Given as goal

abbrev pub invariant-loop-row : goal.invariant-loop-row
invariant-loop-row l =
    AreAscending (map last_lent l.rows)
    → l.servers.items ++ servers_of (map last_lent l.rows) (map last_lent (drop l.row-index l.row-items)) ≡ servers_in (map last_lent l.rows) l.name
