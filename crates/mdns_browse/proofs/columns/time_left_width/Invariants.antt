use Rattle.std.proofs.Common.{◌≡◌, map, take}
use Rattle.mdns_cache.specs.LentRecords.{live_record_lent}
use Rattle.mdns_browse.specs.Columns.{time_left_text, widest}
use Rattle.mdns_browse.proofs.columns.time_left_width.Given as goal

abbrev pub invariant-loop-row : goal.invariant-loop-row
invariant-loop-row l = l.width ≡ widest (map (time_left_text l.now.nanos) (map live_record_lent (take l.row-index l.rows)))
