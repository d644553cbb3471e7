use Rattle.std.proofs.Common.{[], true}
use Rattle.mdns_page.specs.TimelineRows.{GivesSeconds}
use Rattle.mdns_page.proofs.seconds_by_capture.unheard_records.Given as goal

abbrev pub invariant-loop-record : goal.invariant-loop-record
invariant-loop-record l = GivesSeconds true (λ key. []) l.by_record
