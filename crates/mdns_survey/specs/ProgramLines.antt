-- The program's lines about files, faults and endings.
use Rattle.std.specs.Prelude.{ℕ, Bool, true, false, List, [], ◌∷◌, ◌++◌, codes, decimal, slice_get, unwrap_or, Result, Ok, Err}
use Rattle.std.specs.{Prelude.{String, string_bytes}, Global.{Global}}
use Rattle.mdns_capture.specs.declared.savefile.{Ending.{Ending}, Ending.TheVariants.{Whole}}
use Rattle.mdns_capture.specs.declared.savefile.BeginFault.TheVariants.{Memory as BeginMemory, Read as BeginRead, ShortHeader, Magic}
use Rattle.mdns_capture.specs.declared.savefile.BeginFault.TheVariants.{Version, Link}
pub use Rattle.mdns_capture.specs.Text.{ending_text}
use Rattle.mdns_survey.specs.declared.listen.{ListenFault.{ListenFault}, ListenFault.TheVariants.{Begin, Read, Memory as ListenMemory}}
use Rattle.mdns_survey.specs.declared.survey.{SurveyFault.{SurveyFault}, SurveyFault.TheVariants.{File, Early, Memory, Write}}
use Rattle.mdns_survey.specs.declared.summary.{Tally.{Tally}, Summary.{Summary}}
use Rattle.memory.specs.declared.want.Want.{Want}
use Rattle.mdns_browse.specs.RecordText.{moment_text}

infixr 10 ◌<>◌
-- texts one after another
abbrev pub ◌<>◌ : List ℕ → List ℕ → List ℕ
a <> b = a ++ b

-- the counts of a tally
abbrev pub tally_text : Tally → List ℕ
tally_text t = codes "packets " <> decimal t.packets <> codes " skipped " <> decimal t.skipped <> codes " refused " <>
    decimal t.refused <> codes " messages " <> decimal t.messages <> codes " hearings " <> decimal t.hearings

-- the line of `check` for one file
abbrev pub check_text : List ℕ → Summary → List ℕ
check_text name s = name <> codes ": " <> tally_text s.tally <> codes " " <> ending_text s.ending

-- the error line of a program for a file that isn't whole
abbrev pub ending_line_text : List ℕ → List ℕ → Ending → List ℕ
ending_line_text program name ending = program <> codes ": " <> name <> codes ": " <> ending_text ending

-- the error line of a program where nothing heard is about the words
abbrev pub unmatched_line_text : List ℕ → List ℕ → List ℕ
unmatched_line_text program words = program <> codes ": nothing heard is about " <> words

-- the error line for a file that can't be opened
abbrev pub open_line_text : List ℕ → List ℕ → List ℕ
open_line_text program name = program <> codes ": " <> name <> codes ": cannot be opened"

-- why a capture is refused
abbrev pub listen_text : ListenFault → List ℕ
listen_text (Begin BeginMemory) = codes "out of memory"
listen_text (Begin BeginRead) = codes "read failed"
listen_text (Begin ShortHeader) = codes "file header is cut short"
listen_text (Begin Magic) = codes "not a classic pcap file"
listen_text (Begin Version) = codes "pcap version is not 2.4"
listen_text (Begin Link) = codes "link type is not Ethernet"
listen_text Read = codes "read failed"
listen_text ListenMemory = codes "out of memory"

-- the error line of a program that is refused, over captures of these names
abbrev pub fault_line_text : List ℕ → List (List ℕ) → SurveyFault → List ℕ
fault_line_text program names (File index fault) =
    program <> codes ": " <> unwrap_or (slice_get names index) [] <> codes ": " <> listen_text fault
fault_line_text program names (Early newest) =
    program <> codes ": the moment is earlier than the newest hearing, " <> moment_text newest.nanos
fault_line_text program names Memory = program <> codes ": out of memory"
fault_line_text program names Write = program <> codes ": write failed"

-- a fact of the index that a file's fault carries, and of why the file can't be listened to
abbrev pub IfFile : SurveyFault → (ℕ → ListenFault → Type 0) → Type 0
IfFile (File index fault) p = p index fault
IfFile _ p = Unit {0}

-- the lines of a check, one for each capture, each with its line feed
abbrev pub check_lines_text : List (List ℕ) → List Summary → List ℕ
check_lines_text (name ∷ names) (summary ∷ summaries) = check_text name summary <> 10 ∷ check_lines_text names summaries
check_lines_text _ _ = []

-- the line that a program writes: the line itself, or `out of memory` where its allocation failed
abbrev pub said_text : List ℕ → Result (String Global) Want → List ℕ
said_text program (Ok line) = string_bytes line
said_text program (Err want) = program <> codes ": out of memory"

-- the bytes of the capture end where a packet does
abbrev pub is_whole : Ending → Bool
is_whole Whole = true
is_whole _ = false
