-- A run over files: the verdicts on them, which are written, and the exit status.
use Rattle.std.specs.Prelude.{◌≡◌, ℕ, ◌&&◌, Bool, false, true, not, IsTrue, if◌then◌else◌, List, [], ◌∷◌, Option, codes}
use Rattle.std.specs.{List.{list_all}, Io.KnownBytes.{Appends}}
use Rattle.mdns_browse.specs.declared.report.Form.{Form}
use Rattle.mdns_capture.specs.declared.stream.{Sink.{Ghosts as SinkGhosts}, Source.{Ghosts as SourceGhosts}}
use Rattle.mdns_capture.specs.{Output.{AppendsPrefix, Writing}, Stream.{OneMoreFailed}}
use Rattle.mdns_message.specs.TextData.{string_text}
use Rattle.mdns_survey.specs.declared.{listen.ListenFault.TheVariants.{Memory as ListenMemory}, survey.SurveyFault.{SurveyFault}}
use Rattle.mdns_survey.specs.{ProgramLines.{fault_line_text, is_whole}, Said.{Says}}
use Rattle.mdns_survey.specs.declared.survey.SurveyFault.TheVariants as survey
use Rattle.mdns_trace.specs.declared.{verdict.Verdict.{Verdict}, verdict.Verdict.TheVariants.{Capture}, each_file.FilesFault.{FilesFault}}
use Rattle.mdns_trace.specs.declared.{each_file.FilesFault.TheVariants.{File, Memory}, trace.TraceFault.{TraceFault}}
use Rattle.mdns_trace.specs.{declared.trace.TraceFault.TheVariants.{Listen, Write}, EachFile.{StopsAmong, WritesEach}}
use Rattle.mdns_trace.specs.{Verdict.{IsVerdict, is_silent}, Entry.{file_entry}, EntryText.{entry_text}}

-- no write failed
abbrev pub IsUnfailed : {W : Type 0} → SinkGhosts W → W → W → Type 0
IsUnfailed sink old new = (sink.failures new ≡ sink.failures old) × (IsTrue (sink.steady old) → IsTrue (sink.steady new))

-- The lines of the file of that name were written, and no write failed.
pub record WritesVerdict {R W : Type 0} (source : SourceGhosts R) (sink : SinkGhosts W) (form : Form) (name : List ℕ)
    (reader : Option R) (old new : W) (verdict : Verdict) : Type 0 where
  pub is : IsVerdict source reader verdict
  pub written : Appends (sink.written old) (sink.written new) (entry_text form (string_text name) (file_entry verdict))
  pub unfailed : IsUnfailed sink old new

-- A prefix of the lines of a file was written; then a write failed, of a sink that isn't steady.
pub record BreaksVerdict {R W : Type 0} (source : SourceGhosts R) (sink : SinkGhosts W) (form : Form) (name : List ℕ)
    (reader : Option R) (old new : W) : Type 0 where
  pub verdict : Verdict
  pub is : IsVerdict source reader verdict
  pub prefix : AppendsPrefix (sink.written old) (sink.written new) (entry_text form (string_text name) (file_entry verdict))
  pub failed : OneMoreFailed (sink.failures old) (sink.failures new)
  pub unsteady : IsTrue (sink.steady old) → ⊥

-- the lines of a file weren't all written: none of them where an allocation failed, or some
abbrev pub StopsVerdict : {R W : Type 0} → SourceGhosts R → SinkGhosts W → Form → List ℕ → Option R → W → W → TraceFault → Type 0
StopsVerdict source sink form name reader old new (Listen fault) = (fault ≡ ListenMemory) × (new ≡ old)
StopsVerdict source sink form name reader old new Write = BreaksVerdict source sink form name reader old new

-- THE EXIT STATUS

-- the file is a capture
abbrev pub is_usable : Verdict → Bool
is_usable (Capture reading) = true
is_usable verdict = false

-- the file is a capture that ends where a packet does, and that has hearings
abbrev pub is_sound : Verdict → Bool
is_sound (Capture reading) = is_whole reading.summary.ending && not (is_silent reading.summary)
is_sound verdict = false

abbrev pub are_usable : List Verdict → Bool
are_usable verdicts = list_all is_usable verdicts

abbrev pub are_sound : List Verdict → Bool
are_sound verdicts = list_all is_sound verdicts

-- 2 where some file is no capture, 0 where all files are sound, else 1
abbrev pub status_of : List Verdict → ℕ
status_of verdicts =
    if are_usable verdicts then (if are_sound verdicts then 0 else 1) else 2

-- THE RUN

-- the fault of a survey that has the same error line, which names no file
abbrev pub survey_fault : FilesFault → SurveyFault
survey_fault (File index (Listen fault)) = survey.Memory
survey_fault (File index Write) = survey.Write
survey_fault Memory = survey.Memory

-- The lines of all files were written, and nothing on the error writer; this is the status.
pub record IsAnsweredFiles {R O E : Type 0} (source : SourceGhosts R) (sink : SinkGhosts O) (form : Form) (names : List (List ℕ))
    (readers : List (Option R)) (old new : O) (old_err new_err : E) (status : ℕ) : Type 0 where
  pub verdicts : List Verdict
  pub writes : WritesEach (WritesVerdict source sink form) old names readers new verdicts
  pub silent : new_err ≡ old_err
  pub is_status : status ≡ status_of verdicts

-- The lines weren't all written for some fault, whose error line was written; the status is 2.
pub record IsRefusedFiles {R O : Type 0} (source : SourceGhosts R) (sink : SinkGhosts O) (form : Form) (names : List (List ℕ))
    (readers : List (Option R)) (old new : O) (err : Writing) (status : ℕ) : Type 0 where
  pub fault : FilesFault
  pub stops : StopsAmong (WritesVerdict source sink form) (StopsVerdict source sink form) names readers old new fault
  pub says : Says (codes "mdnswhy") (fault_line_text (codes "mdnswhy") names (survey_fault fault) ∷ []) err
  pub is_status : status ≡ 2
