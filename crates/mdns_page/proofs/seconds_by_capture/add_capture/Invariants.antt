use Rattle.std.proofs.Common.{[], ◌++◌, ◌∷◌, List, cond, length, true}
use Rattle.std.specs.List.Sorted.{IsStrictlySortedBy}
use Rattle.mdns_message.specs.{declared.hearing.Hearing.{Hearing}, Resource.{key_cmp}}
use Rattle.mdns_lives.specs.Chronicle.{Chronicles}
use Rattle.mdns_page.specs.TimelineRows.{GivesSeconds, among}
use Rattle.mdns_page.proofs.SecondsByCaptureLemmas.{keys_left}
use Rattle.mdns_page.proofs.seconds_by_capture.add_capture.Given as goal

-- of each record that isn't left its seconds in this capture are told too
abbrev pub invariant-loop-record : goal.invariant-loop-record
invariant-loop-record l = (heard : List Hearing) → Chronicles l.chronicle heard → IsStrictlySortedBy key_cmp (keys_left l.walk)
    × ((each : List (List Hearing)) → GivesSeconds true (λ key. each) l.fn.by_record
    → GivesSeconds true (λ key. cond (among (keys_left l.walk) key) each (each ++ heard ∷ [])) l.by_record)

abbrev pub decreases-loop-record : goal.decreases-loop-record
decreases-loop-record l = length l.walk
