use Rattle.std.proofs.Common.{map, take}
use Rattle.mdns_cache.specs.LentRecords.{last_lent}
use Rattle.mdns_browse.specs.{Services.{body_of}, Sheet.{server_address}}
use Rattle.mdns_browse.proofs.report_walk.walk_addresses.Given as goal

abbrev pub invariant-loop-row : goal.invariant-loop-row
invariant-loop-row g l =
    g.S.Sheet.takes l.initial.sheet (map server_address (map body_of (map last_lent (take l.row-index l.rows)))) l.sheet
