-- The verdict on a file as JSON (RFC 8259): one object a line, which says what the lines of words say.
use Rattle.std.specs.Prelude.{◌≡◌, ℕ, ◌==◌, Bool, if◌then◌else◌, List, [], ◌∷◌, ◌++◌, length, Option, Some, None, codes, decimal}
use Rattle.std.specs.List.{flat_map}
use Rattle.mdns_browse.specs.Json.{first_after, json_array, json_member, json_object, json_string, parted}
use Rattle.mdns_capture.specs.Text.{ending_text}
use Rattle.mdns_survey.specs.declared.{reading.Reading.{Reading}, reading.Span.{Span}, summary.Summary.{Summary}, summary.Tally.{Tally}}
use Rattle.mdns_survey.specs.ProgramLines.{is_whole}
use Rattle.mdns_trace.specs.declared.{flaw.Flaw.{Flaw}, verdict.Verdict.{Verdict}}
use Rattle.mdns_trace.specs.{declared.verdict.Verdict.TheVariants.{Capture, Other, Unread, Unopened}, Flaw.{cure_text, link_name}}
use Rattle.mdns_trace.specs.{declared.loss.Loss.{Loss}, Loss.{cure_of, losses, lost_to, words_of}, MomentMember.{moment_member}}
use Rattle.mdns_trace.specs.Verdict.{early_cure, is_silent, silent_cure, unopened_cure, unread_cure}
use Rattle.mdns_trace.specs.declared.flaw.Flaw.TheVariants as flaw

-- WHAT A FILE IS

-- the kind of a file that isn't a capture, in one word
abbrev pub kind_word : Flaw → List ℕ
kind_word flaw.Pcapng = codes "pcapng"
kind_word flaw.Gzip = codes "gzip"
kind_word flaw.Modified = codes "modified-pcap"
kind_word flaw.Empty = codes "empty"
kind_word flaw.HeaderCut = codes "cut-header"
kind_word flaw.Version = codes "version"
kind_word (flaw.Link number) = codes "link-type"
kind_word flaw.Unknown = codes "other"

-- what a file is, in one word
abbrev pub is_word : Verdict → List ℕ
is_word (Capture reading) = codes "capture"
is_word (Other flaw) = kind_word flaw
is_word Unread = codes "unread"
is_word Unopened = codes "unopened"

-- the name of a link type, where it has one
unfoldable pub name_members : List ℕ → List (List ℕ)
name_members name = if length name == 0 then [] else json_member (codes "link_name") (json_string name) ∷ []

-- the number and the name of a link type; nothing of a file that isn't a capture for another reason
abbrev pub link_members : Flaw → List (List ℕ)
link_members (flaw.Link number) = json_member (codes "link_type") (decimal number) ∷ name_members (link_name number)
link_members other = []

-- the same, and what to do about a file that isn't a capture
unfoldable pub flaw_members : Flaw → List (List ℕ)
flaw_members flaw = link_members flaw ++ json_member (codes "do") (json_string (cure_text flaw)) ∷ []

-- WHAT A CAPTURE LOST

-- so many packets that were lost to it, and what to do about it
unfoldable pub loss_members : ℕ → Loss → List (List ℕ)
loss_members count loss =
    json_member (codes "cause") (json_string (words_of loss)) ∷ json_member (codes "packets") (decimal count)
    ∷ json_member (codes "do") (json_string (cure_of loss)) ∷ []

-- the object of them; nothing where there are none
unfoldable pub loss_objects : Reading → Loss → List (List ℕ)
loss_objects reading loss = if lost_to loss reading == 0 then [] else json_object (loss_members (lost_to loss reading) loss) ∷ []

-- an array of them
unfoldable pub lost_json : Reading → List ℕ
lost_json reading = json_array (flat_map (loss_objects reading) losses)

-- the objects were added to the values of an array, of which none, or some, had been written before
pub record AddsObjects (first : Bool) (old : List ℕ) (objects : List (List ℕ)) (new : List ℕ) (next : Bool) : Type 0 where
  pub text : new ≡ old ++ parted first objects
  pub flag : next ≡ first_after first objects

-- WHAT A CAPTURE HAS

-- what to do about a capture without hearings
unfoldable pub silent_members : Summary → List (List ℕ)
silent_members summary = if is_silent summary then json_member (codes "do") (json_string (silent_cure summary.tally)) ∷ [] else []

-- the same cure after another one
unfoldable pub silent_after : Summary → List ℕ
silent_after summary = if is_silent summary then codes "; " ++ silent_cure summary.tally else []

-- what to do about a capture that ended before its packets did, or that has no hearings; both cures where it is both
unfoldable pub do_members : Reading → List (List ℕ)
do_members reading =
    if is_whole reading.summary.ending then silent_members reading.summary
    else json_member (codes "do") (json_string (early_cure reading.span ++ silent_after reading.summary)) ∷ []

-- the earliest and the latest moment of its packets, where it has packets
unfoldable pub bounds_members : Option Span → List (List ℕ)
bounds_members None = []
bounds_members (Some span) = moment_member (codes "first") span.first.nanos ∷ moment_member (codes "last") span.last.nanos ∷ []

-- its counts
unfoldable pub tally_members : Tally → List (List ℕ)
tally_members tally =
    json_member (codes "packets") (decimal tally.packets)
    ∷ json_member (codes "skipped") (decimal tally.skipped)
    ∷ json_member (codes "refused") (decimal tally.refused)
    ∷ json_member (codes "messages") (decimal tally.messages)
    ∷ json_member (codes "hearings") (decimal tally.hearings) ∷ []

-- these, how it ends, and what it lost
unfoldable pub capture_members : Reading → List (List ℕ)
capture_members reading =
    do_members reading ++ bounds_members reading.span ++ tally_members reading.summary.tally
    ++ json_member (codes "ending") (json_string (ending_text reading.summary.ending))
    ∷ json_member (codes "lost") (lost_json reading) ∷ []

-- THE LINE

-- what is known of a file beside what it is
abbrev pub verdict_members : Verdict → List (List ℕ)
verdict_members (Capture reading) = capture_members reading
verdict_members (Other flaw) = flaw_members flaw
verdict_members Unread = json_member (codes "do") (json_string unread_cure) ∷ []
verdict_members Unopened = json_member (codes "do") (json_string unopened_cure) ∷ []

-- the line of a file of that name
unfoldable pub verdict_json : List ℕ → Verdict → List ℕ
verdict_json file verdict =
    json_object
    (json_member (codes "file") (json_string file)
    ∷ json_member (codes "is") (json_string (is_word verdict))
    ∷ verdict_members verdict) ++ 10 ∷ []
