-- The lines that the program writes to its error writer.
use Rattle.std.specs.Prelude.{◌≡◌, ◌⊎◌, ℕ, IsTrue, if◌then◌else◌, List, [], ◌∷◌, ◌++◌, Option, None, Some, codes}
use Rattle.std.specs.Io.KnownBytes.{Appends}
use Rattle.mdns_capture.specs.{Stream.{OneMoreFailed}, Output.{AppendsPrefix, Writing}}
use Rattle.mdns_survey.specs.{declared.summary.Summary.{Summary}, ProgramLines.{ending_line_text, is_whole, unmatched_line_text}}

-- the text is these lines as a program writes them, each with its line feed; `out of memory` is said of one whose allocation failed
abbrev pub AreSaid : List ℕ → List (List ℕ) → List ℕ → Type 0
AreSaid program [] text = text ≡ []
AreSaid program (line ∷ lines) text =
    (said : List ℕ) × ((rest : List ℕ) × ((said ≡ line) ⊎ (said ≡ program ++ codes ": out of memory"))
    × (text ≡ said ++ 10 ∷ rest) × AreSaid program lines rest)

-- the lines were written whole
abbrev pub SaysAll : List ℕ → List (List ℕ) → Option (List ℕ) → Option (List ℕ) → Type 0
SaysAll program lines old new = (text : List ℕ) × AreSaid program lines text × Appends old new text

-- a prefix of the lines was written
abbrev pub SaysPrefix : List ℕ → List (List ℕ) → Option (List ℕ) → Option (List ℕ) → Type 0
SaysPrefix program lines old new = (text : List ℕ) × AreSaid program lines text × AppendsPrefix old new text

-- no write failed, and the text was written whole
abbrev pub GoesOut : List ℕ → Writing → Type 0
GoesOut text err = (err.new_failures ≡ err.failures) × Appends err.old err.new text

-- A program's lines were written whole and no write failed, or exactly one write failed and a prefix of them was written.
-- To a steady writer they were written whole.
pub record Says (program : List ℕ) (lines : List (List ℕ)) (err : Writing) : Type 0 where
  pub text : List ℕ
  pub said : AreSaid program lines text
  pub ends : GoesOut text err ⊎ (OneMoreFailed err.failures err.new_failures × AppendsPrefix err.old err.new text)
  pub whole : IsTrue err.steady → GoesOut text err

-- the error line of each capture that isn't whole
abbrev pub ending_lines : List ℕ → List (List ℕ) → List Summary → List (List ℕ)
ending_lines program (name ∷ names) (summary ∷ summaries) =
    if is_whole summary.ending then ending_lines program names summaries
    else ending_line_text program name summary.ending ∷ ending_lines program names summaries
ending_lines program _ _ = []

-- the error line of what is unmatched; none where nothing is
abbrev pub unmatched_lines : List ℕ → Option (List ℕ) → List (List ℕ)
unmatched_lines program None = []
unmatched_lines program (Some words) = unmatched_line_text program words ∷ []
