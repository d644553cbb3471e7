-- What is asked is refused where an allocation failed before any file was read.
use Rattle.std.proofs.Common.{◌≡◌, inl, ℕ, Bool, true, false, codes, List, [], ◌∷◌}
use Rattle.mdns_capture.specs.{declared.stream.Source.{Ghosts}, Output.{Writing}}
use Rattle.mdns_survey.specs.{declared.survey.SurveyFault.TheVariants.{Memory}, Answer.{IsRefusedOf}, ProgramLines.{fault_line_text}}
use Rattle.mdns_survey.specs.{Question.{Asked}, Refusals.{Leaves}, Said.{Says}}

module _ {R : Type 0} (source : Ghosts R) (names : List (List ℕ)) (readers : List R) (out err : Writing) (same : out.new ≡ out.old)
    (counts : out.new_failures ≡ out.failures)
    (says : Says (codes "mdnsmerge") (fault_line_text (codes "mdnsmerge") names Memory ∷ []) err) where
  leaves : (at_once : Bool) → Leaves at_once out.old out.new Memory
  leaves true = same
  leaves false = tt

  pub memory-refused : (asked : Asked) → IsRefusedOf source asked (codes "mdnsmerge") names readers out err
  memory-refused asked = record {
    fault = Memory;
    why = inl same;
    untouched = leaves asked.at_once;
    says = says;
    blames_readers = record { within = tt; no_read = λ all. tt; spared = tt };
    blames_writer = record { writer = λ steady is. absurd cc; counts = counts };
  }
