use Rattle.std.proofs.Common.{List, take, true}
use Rattle.mdns_message.specs.declared.hearing.Hearing.{Hearing}
use Rattle.mdns_lives.specs.Chronicle.{Chronicles}
use Rattle.mdns_browse.specs.Services.{AreEach}
use Rattle.mdns_page.specs.TimelineRows.{GivesSeconds}
use Rattle.mdns_page.proofs.seconds_by_capture.seconds_by_record.Given as goal

-- the seconds of the captures so far
abbrev pub invariant-loop-chronicle : goal.invariant-loop-chronicle
invariant-loop-chronicle l =
    (each : List (List Hearing)) → AreEach Chronicles (take l.chronicle-index l.chronicles) each
    → GivesSeconds true (λ key. each) l.by_record
