use Rattle.std.proofs.Common.{◌≡◌, ◌++◌, drop, map}
use Rattle.mdns_cache.specs.LentRecords.{last_lent}
use Rattle.mdns_browse.specs.Services.{texts_of}
use Rattle.mdns_browse.proofs.services.texts.Given as goal

abbrev pub invariant-loop-row : goal.invariant-loop-row
invariant-loop-row l = l.texts.items ++ texts_of (map last_lent (drop l.row-index l.row-items)) ≡ texts_of (map last_lent l.row-items)
