-- What the programs do alike.
use Rattle.std.specs.Prelude.{◌≡◌, ℕ, ◌<◌, ◌==◌, ◌⊎◌, ◌++◌, ⊤, Bool, List, [], ◌∷◌, if◌then◌else◌}
use Rattle.std.specs.{Prelude.{length, slice_index_or, string_bytes}, Bool.{OnTrue, OnFalse}, Io.KnownBytes.{Appends}}
use Rattle.mdns_capture.specs.{Calls.{WritesWell}, Output.{AppendsPrefix, writing}}
use Rattle.mdns_capture.specs.declared.stream.Sink as sink
use Rattle.mdns_survey.specs.{ProgramLines.{fault_line_text, open_line_text}, Said.{Says}, declared.survey.SurveyFault.{SurveyFault}}
use Rattle.command_line.specs.declared.{program.OpenFault.{OpenFault}, words.WordsFault.TheVariants.{Memory, Help, Refused}}
use Rattle.command_line.specs.declared.words.{AskFault.{AskFault}, AskFault.TheVariants.{Version, Words}}
use Rattle.command_line.specs.declared.program.OpenFault.TheVariants as opening

-- the index of the file that can't be opened is one of so many
abbrev pub IsIndexOf : ℕ → OpenFault → Type 0
IsIndexOf count opening.Memory = ⊤
IsIndexOf count (opening.File index) = index < count

-- the error line of a program for files of which one can't be opened, or for a failed allocation
abbrev pub IsOpenLine : List ℕ → List ℕ → List (List ℕ) → List ℕ → Type 0
IsOpenLine program no_memory names line = (line ≡ no_memory)
    ⊎ ((index : ℕ) × (index < length names) × (line ≡ open_line_text program (slice_index_or names index [])))

-- a text without the line feeds at its end
abbrev pub before_feeds : ℕ → List ℕ → List ℕ
before_feeds byte [] = if byte == 10 then [] else byte ∷ []
before_feeds byte (next ∷ rest) = byte ∷ next ∷ rest

abbrev pub trimmed : List ℕ → List ℕ
trimmed [] = []
trimmed (byte ∷ rest) = before_feeds byte (trimmed rest)

-- the text went out with one line feed at its end where `done` holds, and otherwise a prefix of that, since a write failed
abbrev pub Puts : {W : Type 0} → sink.Ghosts W → W → W → List ℕ → Bool → Type 0
Puts writer old new text done = OnTrue done (Appends (writer.written old) (writer.written new) (trimmed text ++ 10 ∷ []))
    × OnFalse done (AppendsPrefix (writer.written old) (writer.written new) (trimmed text ++ 10 ∷ []))
    × WritesWell writer old new done

-- a text was printed as a line, or a part of it where the write failed
abbrev pub Prints : {W : Type 0} → sink.Ghosts W → W → W → List ℕ → Type 0
Prints writer old new text = (done : Bool) × Puts writer old new text done

-- the error line was printed, and the exit status is that of a refusal
abbrev pub PrintsRefusal : {W : Type 0} → sink.Ghosts W → W → W → List ℕ → ℕ → Type 0
PrintsRefusal writer old new line status = (status ≡ 2) × Prints writer old new line

-- the error line of a failed allocation or of a file's fault was printed, and the exit status is that of a refusal
abbrev pub IsUnopened : {W : Type 0} → sink.Ghosts W → List ℕ → List ℕ → List (List ℕ) → W → W → ℕ → Type 0
IsUnopened writer program no_memory names old new status = PrintsRefusal writer old new no_memory status
    ⊎ ((status ≡ 2) × ((fault : SurveyFault) × Says program (fault_line_text program names fault ∷ []) (writing writer old new)))

-- the text was printed, and the exit status is 0; or a write failed, and so says an error line
abbrev pub Shows : {O E : Type 0} → sink.Ghosts O → O → O → sink.Ghosts E → E → E → List ℕ → List ℕ → ℕ → Type 0
Shows out old new err old_err new_err text failed status = (done : Bool) × Puts out old new text done
    × OnTrue done ((status ≡ 0) × (new_err ≡ old_err)) × OnFalse done (PrintsRefusal err old_err new_err failed status)

-- what is done for a fault: help and the version are shown, and any other is refused with its line
abbrev pub AnswersFault : (List ℕ → Type 0) → (List ℕ → Type 0) → List ℕ → AskFault → Type 0
AnswersFault Shown RefusedWith no_memory (Version text) = Shown (string_bytes text)
AnswersFault Shown RefusedWith no_memory (Words (Help text)) = Shown (string_bytes text)
AnswersFault Shown RefusedWith no_memory (Words Memory) = RefusedWith no_memory
AnswersFault Shown RefusedWith no_memory (Words (Refused text)) = RefusedWith (string_bytes text)
