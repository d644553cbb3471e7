use Rattle.std.proofs.Common.{◌≡◌, ◌++◌, map}
use Rattle.mdns_cache.specs.LentRecords.{live_record_lent}
use Rattle.mdns_browse.specs.Report.{records_about}
use Rattle.mdns_browse.proofs.record_forms.records_about.Given as goal

abbrev pub invariant-loop-row : goal.invariant-loop-row
invariant-loop-row l =
    map live_record_lent l.rows.items ++ records_about l.about l.row-iterator ≡ records_about l.about l.fn.walk
