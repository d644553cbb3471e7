use Rattle.std.proofs.Common.{drop, map}
use Rattle.std.specs.List.{flat_map}
use Rattle.mdns_cache.specs.LentRecords.{last_lent}
use Rattle.mdns_browse.specs.{Services.{AreAscending, servers_in, servers_of}, Sheet.{server_pieces}}
use Rattle.mdns_browse.proofs.ReachLemmas.{Reaches}
use Rattle.mdns_browse.proofs.report_walk.walk_servers.Given as goal

abbrev pub invariant-loop-row : goal.invariant-loop-row
invariant-loop-row g l =
    AreAscending (map last_lent l.rows)
    → Reaches g.S.Sheet.takes l.initial.sheet (flat_map server_pieces (servers_in (map last_lent l.rows) l.name)) l.sheet
    (flat_map server_pieces (servers_of (map last_lent l.rows) (map last_lent (drop l.row-index l.servers))))
