use Rattle.std.proofs.Common.{◌≡◌, ◌++◌, map}
use Rattle.mdns_cache.specs.LentRecords.{live_record_lent}
use Rattle.mdns_browse.specs.{Report.{records_about}, Services.{others_in}}
use Rattle.mdns_browse.proofs.other_names.kept_others.Given as goal

abbrev pub invariant-loop-row : goal.invariant-loop-row
invariant-loop-row l =
    map live_record_lent l.rows.items ++ records_about l.about (others_in l.row-iterator) ≡ records_about l.about (others_in l.fn.walk)
