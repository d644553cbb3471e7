use Rattle.std.proofs.Common.{◌≡◌, drop, map}
use Rattle.std.specs.Borrow.{Bor}
use Rattle.mdns_survey.specs.declared.reading.Reading.{Reading}
use Rattle.mdns_page.specs.ByListener.{ending_of}
use Rattle.mdns_page.proofs.by_listener.ending_of.Given as goal

-- the files before the index are whole
abbrev pub invariant-loop-reading : goal.invariant-loop-reading
invariant-loop-reading l =
    ending_of (map (λ (reading : Bor Reading). reading.now) (drop l.reading-index l.readings))
    ≡ ending_of (map (λ (reading : Bor Reading). reading.now) l.readings)
