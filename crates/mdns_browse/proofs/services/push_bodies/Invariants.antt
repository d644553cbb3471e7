use Rattle.std.proofs.Common.{◌≡◌, ◌++◌, map, take}
use Rattle.mdns_cache.specs.LentRecords.{last_lent}
use Rattle.mdns_browse.specs.Services.{body_of}
use Rattle.mdns_browse.proofs.services.push_bodies.Given as goal

abbrev pub invariant-loop-row : goal.invariant-loop-row
invariant-loop-row l = l.to.items ≡ l.initial.to.items ++ map body_of (map last_lent (take l.row-index l.rows))
