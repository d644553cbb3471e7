use Rattle.std.proofs.Common.{◌≡◌, map, take}
use Rattle.mdns_cache.specs.LentRecords.{live_record_lent}
use Rattle.mdns_browse.specs.Columns.{widest}
use Rattle.mdns_browse.proofs.ColumnLemmas.{kind_text}
use Rattle.mdns_browse.proofs.record_columns.kind_width.Given as goal

abbrev pub invariant-loop-row : goal.invariant-loop-row
invariant-loop-row l = l.width ≡ widest (map kind_text (map live_record_lent (take l.row-index l.rows)))
