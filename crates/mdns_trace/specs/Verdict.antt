-- The verdict on a file: what it is, and the lines of words that say so.
use Rattle.std.specs.Prelude.{◌≡◌, ℕ, ◌==◌, ◌&&◌, ◌||◌, Bool, IsTrue, not, if◌then◌else◌, List, [], ◌∷◌, ◌++◌}
use Rattle.std.specs.{Prelude.{Option, Some, None, IfSome, codes, decimal}, List.{flat_map}}
use Rattle.mdns_capture.specs.declared.savefile.BeginFault.{BeginFault}
use Rattle.mdns_capture.specs.{declared.savefile.Ending.{Ending}, declared.stream.Source.{Ghosts as SourceGhosts}, Capture.{IsOver}}
use Rattle.mdns_capture.specs.{Savefile.{PacketAt, header_fault}, Text.{ending_text}}
use Rattle.people_text.specs.MomentText.{exact_text}
use Rattle.mdns_survey.specs.declared.{reading.Reading.{Reading}, reading.Span.{Span}, summary.Summary.{Summary}, summary.Tally.{Tally}}
use Rattle.mdns_survey.specs.{Outcomes.{Outcome}, ProgramLines.{is_whole}, Listen.{IsReadingOf}}
use Rattle.mdns_trace.specs.declared.verdict.{Verdict.{Verdict}, Verdict.TheVariants.{Capture, Other, Unread, Unopened}}
use Rattle.mdns_trace.specs.{Flaw.{cure_text, flaw_of, head_of, what_text}, Loss.{loss_text, losses}, SpanLine.{bounds_text}}

-- WHAT A FILE IS

-- no capture begins with these bytes
abbrev pub IsNoCapture : List ℕ → Type 0
IsNoCapture bytes = (fault : BeginFault) × (header_fault bytes ≡ Some fault)

-- the reading is that of a capture of these bytes, where they are known
abbrev pub IsReading : Option (List ℕ) → Reading → Type 0
IsReading left reading = (packets : List PacketAt) × ((outcomes : List Outcome) × IsReadingOf left packets outcomes reading)

-- What a file is whose reader has these bytes, where they are known: a capture with that reading, to its end; no capture,
-- and of that kind by its first bytes; or one whose read failed, if the reader isn't steady.
abbrev pub IsVerdictOf : Option (List ℕ) → Bool → Verdict → Type 0
IsVerdictOf left steady (Capture reading) = IsOver reading.summary.ending × IsReading left reading
IsVerdictOf left steady (Other flaw) = IfSome left (λ bytes. IsNoCapture bytes × (flaw ≡ flaw_of (head_of bytes)))
IsVerdictOf left steady Unread = IsTrue steady → ⊥
IsVerdictOf left steady Unopened = ⊥

-- what a file is; it can't be opened where it has no reader
abbrev pub IsVerdict : {R : Type 0} → SourceGhosts R → Option R → Verdict → Type 0
IsVerdict source None verdict = verdict ≡ Unopened
IsVerdict source (Some reader) verdict = IsVerdictOf (source.remaining reader) (source.steady reader) verdict

-- THE LINES

-- the file's name, and how the reading of it ended
unfoldable pub capture_front : List ℕ → Ending → List ℕ
capture_front file ending = file ++ codes " pcap " ++ ending_text ending

-- The line of a capture in a file of that name: how it ends, how many packets it has, their span, and how many
-- hearings they have.
unfoldable pub capture_line : List ℕ → Reading → List ℕ
capture_line file reading =
    capture_front file reading.summary.ending ++ codes " packets " ++ decimal reading.summary.tally.packets
    ++ 32 ∷ bounds_text reading.span ++ codes " hearings " ++ decimal reading.summary.tally.hearings ++ 10 ∷ []

-- what to do about a capture that ended before its packets did, by the span of those that it has
abbrev pub early_cure : Option Span → List ℕ
early_cure None = codes "no packet is whole"
early_cure (Some span) = codes "later goodbyes are missing, so trust the answers --before " ++ exact_text span.last.nanos

-- its line; nothing for a whole capture
unfoldable pub early_text : List ℕ → Ending → Option Span → List ℕ
early_text file ending span = if is_whole ending then [] else file ++ codes " ends early: " ++ early_cure span ++ 10 ∷ []

-- there are no hearings: packets told none, or a whole capture has no packets
abbrev pub is_silent : Summary → Bool
is_silent summary = (summary.tally.hearings == 0) && (not (summary.tally.packets == 0) || is_whole summary.ending)

-- what to do about it
abbrev pub silent_cure : Tally → List ℕ
silent_cure tally =
    if tally.packets == 0
    then codes "no packet came; are the interface and the filter right, and was anything sent to UDP port 5353 meanwhile?"
    else codes "no packet told a record; if none was lost, record on the services' link and browse meanwhile; "
    ++ codes "mdnswhy packets tells what each packet is"

unfoldable pub silent_text : List ℕ → Summary → List ℕ
silent_text file summary =
    if is_silent summary then file ++ codes " heard nothing: " ++ silent_cure summary.tally ++ 10 ∷ [] else []

-- the lines of a capture in a file of that name
unfoldable pub capture_text : List ℕ → Reading → List ℕ
capture_text file reading =
    capture_line file reading ++ early_text file reading.summary.ending reading.span
    ++ flat_map (loss_text file reading) losses ++ silent_text file reading.summary

-- what to do about a file of which a read failed, and about one that can't be opened
abbrev pub unread_cure : List ℕ
unread_cure = codes "not a file, or a fault of its disk"

abbrev pub unopened_cure : List ℕ
unopened_cure = codes "missing, not readable, or too many open (ulimit -n)"

-- the line of a file that can't be used: what it is, and what to do about it
unfoldable pub unusable_line : List ℕ → List ℕ → List ℕ → List ℕ
unusable_line file what cure = file ++ codes " unusable " ++ what ++ codes ": " ++ cure ++ 10 ∷ []

-- the lines of a file of that name
abbrev pub verdict_text : List ℕ → Verdict → List ℕ
verdict_text file (Capture reading) = capture_text file reading
verdict_text file (Other flaw) = unusable_line file (what_text flaw) (cure_text flaw)
verdict_text file Unread = unusable_line file (codes "read failed") unread_cure
verdict_text file Unopened = unusable_line file (codes "cannot be opened") unopened_cure
