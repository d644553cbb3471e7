-- What a report for people begins with: how many packets were lost, and that nothing was heard.
use Rattle.std.specs.Prelude.{◌≡◌, ℕ, ◌+◌, ◌==◌, if◌then◌else◌, List, [], ◌∷◌, ◌++◌, codes, decimal, sum_by}
use Rattle.mdns_browse.specs.declared.report.{Form.{Form}, Form.TheVariants.{Pretty}}
use Rattle.mdns_capture.specs.Savefile.{PacketAt}
use Rattle.mdns_survey.specs.{declared.reading.Reading.{Reading}, declared.summary.Summary.{Summary}, Outcomes.{AllRead, Outcome}}
use Rattle.mdns_survey.specs.{Reasons.{lost_frames}, Readings.{CountLosses, summaries_of}}

-- THE TEXT

-- a line of how many packets were lost, if any were
unfoldable pub lost_text : ℕ → List ℕ
lost_text lost =
    if lost == 0 then []
    else decimal lost ++ 32 ∷ (if lost == 1 then codes "packet" else codes "packets")
    ++ codes " could not be used: mdnswhy files FILE... says why" ++ 10 ∷ []

-- a line where there are no hearings
unfoldable pub unheard_text : ℕ → List ℕ
unheard_text hearings =
    if hearings == 0 then codes "nothing was heard: mdnswhy files FILE... says what each file is" ++ 10 ∷ [] else []

-- THE HEAD

-- The head of a report on captures with these summaries: for people the text of what they lost, which is a frame that lost
-- what it said or a damaged message, and of whether nothing was heard; else nothing.
abbrev pub IsHead : Form → List (List ℕ) → List Summary → List ℕ → Type 0
IsHead Pretty captures summaries head =
    (packets : List (List PacketAt)) × ((outcomes : List (List Outcome)) × AllRead captures packets outcomes summaries
    × (head ≡ lost_text (sum_by lost_frames packets + sum_by (λ summary. summary.tally.refused) summaries)
    ++ unheard_text (sum_by (λ summary. summary.tally.hearings) summaries)))
IsHead _ captures summaries head = head ≡ []

-- the head of captures with these readings
abbrev pub Heads : Form → List Reading → List ℕ → Type 0
Heads form readings head =
    (captures : List (List ℕ)) (packets : List (List PacketAt)) (outcomes : List (List Outcome))
    → AllRead captures packets outcomes (summaries_of readings) → CountLosses packets readings
    → IsHead form captures (summaries_of readings) head
