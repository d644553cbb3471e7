use Rattle.std.proofs.Common.{◌≡◌, ◌++◌, drop, map}
use Rattle.mdns_survey.specs.declared.reading.Reading.{Reading}
use Rattle.std.specs.Borrow.{Bor}
use Rattle.mdns_page.specs.ByListener.{files_of}
use Rattle.mdns_page.proofs.by_listener.readings_of.Given as goal

-- those of the files before the index were added
abbrev pub invariant-loop-place : goal.invariant-loop-place
invariant-loop-place l =
    map (λ (reading : Bor Reading). reading.now) l.own.items ++ files_of l.by_file l.place l.listener (drop l.place l.readings)
    ≡ files_of l.by_file 0 l.listener l.readings
