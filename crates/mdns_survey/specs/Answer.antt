-- The program's output, and its exit status.
use Rattle.std.specs.Prelude.{◌≡◌, ℕ, Bool, true, false, MatchBool, if◌then◌else◌, List, [], ◌∷◌, ◌++◌, codes, map, Option, None, Some}
use Rattle.std.specs.{List.{list_all}, Io.KnownBytes.{Appends}}
use Rattle.mdns_capture.specs.{declared.stream.Source.{Ghosts}, Output.{Writing}}
use Rattle.mdns_survey.specs.declared.{request.Request.{Request}, request.Request.TheVariants.{Check}, summary.Summary.{Summary}}
use Rattle.mdns_survey.specs.{declared.survey.SurveyFault.{SurveyFault}, ProgramLines.{fault_line_text, is_whole}, Question.{Asked}}
use Rattle.mdns_survey.specs.{Question.{LeavesUnmatchedIn, Refuses, asked_of}, Refusals.{BlamesReaders, BlamesWriter, Leaves}}
use Rattle.mdns_survey.specs.Said.{Says, ending_lines, unmatched_lines}

-- 0 where every capture is whole, else 1
abbrev pub status_of : List Summary → ℕ
status_of summaries = if list_all (λ summary. is_whole summary.ending) summaries then 0 else 1

-- and 1 where subjects are unmatched
abbrev pub status_with : List Summary → Option (List ℕ) → ℕ
status_with summaries None = status_of summaries
status_with summaries (Some words) = 1

-- A text that answers over the captures was written, the program's error lines where these are to be said, and else none: one for
-- each capture that isn't whole, and then one of what is unmatched. And this is the status.
pub record Reports (asked : Asked) (says : Bool) (program : List ℕ) (names captures : List (List ℕ)) (out err : Writing)
    (status : ℕ) : Type 0 where
  pub summaries : List Summary
  pub text : List ℕ
  pub surveys : asked.Answers captures summaries text
  pub written : Appends out.old out.new text
  pub unmatched : Option (List ℕ)
  pub leaves : LeavesUnmatchedIn asked.about asked.as_of captures unmatched
  pub says_lines : MatchBool says (Says program (ending_lines program names summaries ++ unmatched_lines program unmatched) err)
      ((err.new ≡ err.old) × (err.new_failures ≡ err.failures))
  pub is_status : status ≡ status_with summaries unmatched

-- the report, the lives or the check was written, and nothing else; beside a check no error lines
abbrev pub Answers : Request → List (List ℕ) → List (List ℕ) → Writing → Writing → ℕ → Type 0
Answers Check names captures out err status =
    Reports (asked_of Check names) false (codes "mdnsmerge") names captures out err status
Answers request names captures out err status =
    Reports (asked_of request names) true (codes "mdnsmerge") names captures out err status

-- What was asked was refused for some fault, which blames no reader and no writer wrongly, and the program's error line of it was
-- written. Nothing else was, unless a write failed, or an allocation where the answer isn't written at once.
pub record IsRefusedOf {R : Type 0} (source : Ghosts R) (asked : Asked) (program : List ℕ) (names : List (List ℕ))
    (readers : List R) (out err : Writing) : Type 0 where
  pub fault : SurveyFault
  pub why : Refuses asked (map source.remaining readers) out fault
  pub untouched : Leaves asked.at_once out.old out.new fault
  pub says : Says program (fault_line_text program names fault ∷ []) err
  pub blames_readers : BlamesReaders source.steady readers fault
  pub blames_writer : BlamesWriter out fault

-- a request was refused
abbrev pub IsRefused : {R : Type 0} → Ghosts R → Request → List (List ℕ) → List R → Writing → Writing → Type 0
IsRefused source request names readers out err =
    IsRefusedOf source (asked_of request names) (codes "mdnsmerge") names readers out err
