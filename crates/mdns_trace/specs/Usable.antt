-- Files of which those that can't be used are left out, each with an error line.
use Rattle.std.specs.Prelude.{◌≡◌, ◌⊎◌, ⊤, ℕ, Bool, true, false, IsTrue, if◌then◌else◌, ◌==◌, List, [], ◌∷◌, ◌++◌, Option, Some, None}
use Rattle.std.specs.Prelude.{IfSome, codes, drop, length, map, string_bytes}
use Rattle.std.specs.Io.KnownBytes.{Keeps as KeepsBytes, prepend_known}
use Rattle.mdns_capture.specs.declared.{savefile.BeginFault.TheVariants.{Read as BeginRead}, stream.Source.{Ghosts as SourceGhosts}}
use Rattle.mdns_capture.specs.{Output.{AppendsPrefix, Writing}, Savefile.{header_fault}, Stream.{OneMoreFailed}}
use Rattle.mdns_survey.specs.declared.{listen.ListenFault.TheVariants.{Begin, Memory as ListenMemory}, survey.SurveyFault.{SurveyFault}}
use Rattle.mdns_survey.specs.Said.{GoesOut}
use Rattle.mdns_trace.specs.declared.{each_file.FilesFault.{FilesFault}, peeked.BegunReader.{BegunReader}, trace.TraceFault.{TraceFault}}
use Rattle.mdns_trace.specs.declared.{trace.TraceFault.TheVariants.{Listen}, usable.Usable.{Usable}, verdict.Verdict.{Verdict}}
use Rattle.mdns_trace.specs.{declared.verdict.Verdict.TheVariants.{Other, Unread, Unopened}, EachFile.{StopsAmong, WritesEach}}
use Rattle.mdns_trace.specs.{TraceAnswer.{survey_fault}, Verdict.{IsVerdict, verdict_text}}

-- A FILE

-- the bytes that a begun capture has left, where they are known
abbrev pub bytes_of : {R : Type 0} → SourceGhosts R → BegunReader R → Option (List ℕ)
bytes_of source begun = prepend_known (drop begun.at begun.header) (source.remaining begun.inner)

-- The capture of that reader was begun: its file header has no fault, and all its bytes are left, as steadily.
pub record IsBegun {R : Type 0} (source : SourceGhosts R) (reader : R) (begun : BegunReader R) : Type 0 where
  pub sound : IfSome (source.remaining reader) (λ bytes. header_fault bytes ≡ None)
  pub bytes : KeepsBytes (source.remaining reader) (bytes_of source begun)
  pub stays : IsTrue (source.steady reader) → IsTrue (source.steady begun.inner)

-- the file can be used: it was opened, and is a capture
abbrev pub IsUsable : {R : Type 0} → SourceGhosts R → Option R → BegunReader R → Type 0
IsUsable source None begun = ⊥
IsUsable source (Some reader) begun = IsBegun source reader begun

-- a file that is such is left out: it can't be opened, or is no capture
abbrev pub is_left_out : Verdict → Bool
is_left_out (Other flaw) = true
is_left_out Unopened = true
is_left_out verdict = false

-- its error line: the program, the file's name, what the file is, and what to do about it
abbrev pub left_out_line : List ℕ → List ℕ → Verdict → List ℕ
left_out_line program name verdict = verdict_text (program ++ codes ": " ++ name ++ codes ":") verdict

-- FILES, ONE AFTER ANOTHER

-- a file is kept, with its name and this reader
pub record Keeps {R : Type 0} (name : List ℕ) (begun : BegunReader R) (old new : Usable R) : Type 0 where
  pub names : map string_bytes new.names.items ≡ map string_bytes old.names.items ++ name ∷ []
  pub readers : new.readers.items ≡ old.readers.items ++ begun ∷ []
  pub lines : new.lines ≡ old.lines

pub record KeepsFile {R : Type 0} (source : SourceGhosts R) (name : List ℕ) (reader : Option R) (old new : Usable R) : Type 0 where
  pub begun : BegunReader R
  pub is : IsUsable source reader begun
  pub keeps : Keeps name begun old new

-- a file is left out, with its line
pub record LeavesFile {R : Type 0} (source : SourceGhosts R) (program name : List ℕ) (reader : Option R) (old new : Usable R) : Type 0 where
  pub verdict : Verdict
  pub is : IsVerdict source reader verdict
  pub left_out : IsTrue (is_left_out verdict)
  pub names : new.names ≡ old.names
  pub readers : new.readers ≡ old.readers
  pub lines : string_bytes new.lines ≡ string_bytes old.lines ++ left_out_line program name verdict

-- a file is kept, or left out
abbrev pub SeparatesFile : {R : Type 0} → SourceGhosts R → List ℕ → List ℕ → Option R → Usable R → Usable R → Bool → Type 0
SeparatesFile source program name reader old new true = KeepsFile source name reader old new
SeparatesFile source program name reader old new false = LeavesFile source program name reader old new

-- the read of a file failed, or an allocation
abbrev pub StopsSeparating : {R : Type 0} → SourceGhosts R → List ℕ → Option R → Usable R → Usable R → TraceFault → Type 0
StopsSeparating source name reader old new (Listen (Begin BeginRead)) = IsVerdict source reader Unread
StopsSeparating source name reader old new (Listen ListenMemory) = ⊤
StopsSeparating source name reader old new fault = ⊥

-- a file that is such stops that
abbrev pub IsFatal : Verdict → TraceFault → Type 0
IsFatal verdict (Listen (Begin BeginRead)) = verdict ≡ Unread
IsFatal verdict (Listen ListenMemory) = ⊤
IsFatal verdict fault = ⊥

-- no file was kept or left out
pub record IsEmpty {R : Type 0} (usable : Usable R) : Type 0 where
  pub names : usable.names.items ≡ []
  pub readers : usable.readers.items ≡ []
  pub lines : string_bytes usable.lines ≡ []

-- Each of the files of these readers is kept or left out, in their order.
pub record IsSeparated {R : Type 0} (source : SourceGhosts R) (program : List ℕ) (names : List (List ℕ)) (readers : List (Option R))
    (usable : Usable R) : Type 0 where
  pub begin : Usable R
  pub is_empty : IsEmpty begin
  pub kept : List Bool
  pub separates : WritesEach (SeparatesFile source program) begin names readers usable kept

-- Not all were separated, for this fault of the file at its index.
pub record IsUnseparated {R : Type 0} (source : SourceGhosts R) (program : List ℕ) (names : List (List ℕ)) (readers : List (Option R))
    (fault : SurveyFault) : Type 0 where
  pub begin : Usable R
  pub is_empty : IsEmpty begin
  pub end : Usable R
  pub found : FilesFault
  pub stops : StopsAmong (SeparatesFile source program) (StopsSeparating source) names readers begin end found
  pub is_fault : fault ≡ survey_fault found

-- THE LINES

-- the text was written, or a prefix of it and then a write failed
abbrev pub SaysText : List ℕ → Writing → Type 0
SaysText text err = GoesOut text err ⊎ (OneMoreFailed err.failures err.new_failures × AppendsPrefix err.old err.new text)

-- 1 where there are lines, and so a file was left out
abbrev pub least_status : List ℕ → ℕ
least_status lines = if length lines == 0 then 0 else 1
