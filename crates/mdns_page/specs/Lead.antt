-- What a page begins with.
use Rattle.std.specs.Prelude.{ℕ, ◌+◌, ◌==◌, ◌&&◌, Bool, true, false, if◌then◌else◌, Option, None, Some, is_none, List, [], ◌++◌, ◌∷◌, codes}
use Rattle.std.specs.{Prelude.{length, string_bytes}, List.{count_by, flat_map, join_by}}
use Rattle.mdns_capture.specs.{Text.{ending_text}, declared.moment.Moment.{Moment}, declared.savefile.Ending.{Ending}}
use Rattle.mdns_join.specs.declared.latest.Latest.{Latest}
use Rattle.mdns_lives.specs.declared.life.{Life.{Life}, EndReason.{EndReason}, EndReason.TheVariants.{Expired, Goodbye, Flushed}}
use Rattle.mdns_lives.specs.{LentLives.{row_lent}, declared.lives.RecordLives.{RecordLives}, declared.window.Window.{Window}}
use Rattle.mdns_browse.specs.declared.about.Subject.{Subject}
use Rattle.mdns_survey.specs.ProgramLines.{is_whole}
use Rattle.mdns_listeners.specs.{declared.pairs.PairRow.{PairRow}, Warnings.{untold_text, warning_words, warns}}
use Rattle.people_text.specs.{MomentText.{millis_text}, Shown.{shown}}
use Rattle.mdns_page.specs.{Captures.{Facts, name_at}, Counts.{commas, count_text}, TimelineRecords.{is_of}, Picture.{goes_on, is_for}}
use Rattle.mdns_page.specs.{Timeline.{is_last}, declared.timeline_records.TimelinePart.TheVariants.{Instances}}
use Rattle.mdns_page.specs.declared.{axis.Axis.{Axis}, lead.FileEnding.{FileEnding}}

-- ---- how many instances ended

-- the life ended for this reason before the end of the captures
abbrev pub is_ended : Axis → EndReason → Life → Bool
is_ended axis reason life = if goes_on axis life then false else is_for reason life.reason

-- a record that the page keeps: whether it gives an instance, and its lives, drawn or not
abbrev pub known_of : Latest × List Life → Bool × List Life
known_of row = (is_of Instances row.0, row.1)

abbrev pub known_lent : RecordLives → Bool × List Life
known_lent row = known_of (row_lent row)

-- how many of them give an instance, and have a last life that is such
abbrev pub count_known : (Life → Bool) → List (Bool × List Life) → ℕ
count_known is known = count_by (λ row. is_last is row.1 && row.0) known

-- ---- the first line

-- how many ended in one way; nothing where none did
unfoldable pub ended_text : Bool → ℕ → List ℕ → List ℕ
ended_text first count how =
    if count == 0 then [] else (if first then [] else codes ", ") ++ commas count ++ 32 ∷ how

-- how many others had ended before, and in which ways; nothing where there are no others
unfoldable pub others_text : (goodbyes flushed expired : ℕ) → List ℕ
others_text goodbyes flushed expired =
    let others = goodbyes + flushed + expired in
    if others == 0 then [] else 32 ∷ count_text others (codes "other had") (codes "others had") ++ codes " ended before: "
    ++ ended_text true goodbyes (codes "by goodbye") ++ ended_text (goodbyes == 0) flushed (codes "by flush")
    ++ ended_text ((goodbyes == 0) && (flushed == 0)) expired (codes "expired") ++ codes "."

-- how many instances have said goodbye; nothing where none has
unfoldable pub said_text : ℕ → List ℕ
said_text count = if count == 0 then [] else codes " (" ++ commas count ++ codes " said goodbye)"

-- how many instances were live at the end of the captures, how many of them have said goodbye, and how many had ended before
unfoldable pub counts_line : Axis → List (Bool × List Life) → List ℕ
counts_line axis known =
    codes "<p class=\"lead\">"
    ++ count_text (count_known (goes_on axis) known) (codes "service instance was") (codes "service instances were")
    ++ codes " live at <time>" ++ millis_text axis.now.nanos ++ codes "</time>"
    ++ said_text (count_known (λ life. goes_on axis life && is_for Goodbye life.reason) known) ++ codes "."
    ++ others_text (count_known (is_ended axis Goodbye) known) (count_known (is_ended axis Flushed) known)
    (count_known (is_ended axis Expired) known) ++ codes "</p>\n"

-- the same; that nothing was heard, where there is no moment and no record
abbrev pub live_line : Axis → List (Bool × List Life) → List ℕ
live_line axis known =
    if (axis.now.nanos == 0) && (length known == 0)
    then codes "<p class=\"lead\">Nothing was heard: mdnswhy files FILE... says why.</p>\n" else counts_line axis known

-- ---- what the page shows

-- a bound of the window; nothing where there is none
unfoldable pub bound_text : (word : List ℕ) → Option Moment → List ℕ
bound_text word None = []
bound_text word (Some moment) = word ++ codes "<time>" ++ millis_text moment.nanos ++ codes "</time>"

-- that only lives in the window are drawn
unfoldable pub bounds_line : Window → List ℕ
bounds_line window =
    codes "<p class=\"note\">Only lives" ++ bound_text (codes " since ") window.since ++ bound_text (codes " until ") window.until
    ++ codes " are drawn; counts and words are of all that was heard.</p>\n"

-- the same; nothing where the window has no bounds
abbrev pub window_line : Window → List ℕ
window_line window = if is_none window.since && is_none window.until then [] else bounds_line window

-- that only what is about some subjects is shown, each as it was given; nothing where there are none, since all is shown then
abbrev pub about_line : (List ℕ → List ℕ) → List Subject → List ℕ
about_line say [] = []
about_line say (first ∷ others) =
    codes "<p class=\"note\">Only what is about "
    ++ join_by (λ (subject : Subject). say (shown (string_bytes subject.text))) (codes ", ") (first ∷ others) ++ codes ".</p>\n"

-- ---- warnings

-- a file with its ending
pub record Ended : Type 0 where
  pub name : List ℕ
  pub ending : Ending

abbrev pub ended_lent : FileEnding → Ended
ended_lent file = record { name = file.name.now; ending = file.ending }

-- that a file isn't whole, and how it ends; nothing of one that is whole
unfoldable pub ending_warning : (List ℕ → List ℕ) → Ended → List ℕ
ending_warning say file =
    if is_whole file.ending then []
    else codes "<p class=\"warn\">" ++ say (shown file.name) ++ codes ": " ++ ending_text file.ending
    ++ codes ". What came later is missing, goodbyes too.</p>\n"

-- that the clocks of two captures don't agree, or that the captures may come from two links; nothing where neither is known
unfoldable pub pair_warning : (List ℕ → List ℕ) → List Facts → PairRow → List ℕ
pair_warning say captures pair =
    if warns pair then codes "<p class=\"warn\">" ++ say (shown (name_at captures pair.other)) ++ codes " beside "
    ++ say (shown (name_at captures pair.one)) ++ codes ": " ++ warning_words pair ++ codes "</p>\n"
    else []

-- the warnings of all pairs, and of how many pairs too few messages tell whether their clocks agree
abbrev pub clock_warnings : (List ℕ → List ℕ) → List Facts → List PairRow → List ℕ
clock_warnings say captures pairs =
    flat_map (pair_warning say captures) pairs ++ untold_text (codes "<p class=\"warn\">") pairs (codes "</p>\n")

-- that packets lost what they said; nothing where there are none
unfoldable pub lost_warning : ℕ → List ℕ
lost_warning lost =
    if lost == 0 then [] else codes "<p class=\"warn\">" ++ count_text lost (codes "packet") (codes "packets")
    ++ codes " could not be used: <a href=\"#nothing\">why</a>.</p>\n"
