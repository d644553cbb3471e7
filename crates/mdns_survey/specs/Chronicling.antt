-- A chronicle of captures while it is filled, and while it is written.
use Rattle.std.specs.{Prelude.{◌≡◌, ◌⊎◌, ℕ, List, [], ◌++◌, Option}, List.{flat_map}, Io.KnownBytes.{Appends}}
use Rattle.mdns_capture.specs.{Output.{AppendsPrefix, Writing}, Savefile.{PacketAt}}
use Rattle.mdns_join.specs.declared.latest.Latest.{Latest}
use Rattle.mdns_lives.specs.{declared.life.Life.{Life}, MessageChronicle.{Recorded, RecordsAll}}
use Rattle.mdns_browse.specs.declared.{report.Form.{Form}, report.Form.TheVariants.{Pretty}, life_text.Layout.{Layout}}
use Rattle.mdns_browse.specs.LifeText.{IsLayout}
use Rattle.mdns_survey.specs.declared.{filter.Filter.{Filter}, survey.SurveyFault.{SurveyFault}}
use Rattle.mdns_survey.specs.{declared.survey.SurveyFault.TheVariants.{File, Early, Memory, Write}, Outcomes.{Outcome}, Filter.{counted}}

-- those hearings of all captures that count, and no others, are recorded
abbrev pub Chronicled : Filter → Recorded → List (List PacketAt) → List (List Outcome) → Type 0
Chronicled which now packets outcomes = RecordsAll now.contents now.memory (counted which outcomes)

-- a text that waits was written and is empty now, or it goes on waiting
abbrev pub IsTextOut : Option (List ℕ) → Option (List ℕ) → List ℕ → List ℕ → Type 0
IsTextOut old new text new_text = ((new ≡ old) × (new_text ≡ text)) ⊎ (Appends old new text × (new_text ≡ []))

-- the layout is that of the rows where the form has columns
abbrev pub FitsForm : Form → ℕ → List (Latest × List Life) → Layout → Type 0
FitsForm Pretty end rows layout = IsLayout end rows layout
FitsForm _ end rows layout = Unit {0}

-- Why texts of rows aren't written whole, after a text that stands before them: a failed allocation, before which nothing was
-- written, or what stands before them and the texts of some first rows; or a failed write, before which a prefix was.
abbrev pub StopsRows : List ℕ → (Latest × List Life → List ℕ) → List (Latest × List Life) → Writing → SurveyFault → Type 0
StopsRows head text_of rows out (File index fault) = ⊥
StopsRows head text_of rows out (Early newest) = ⊥
StopsRows head text_of rows out Memory =
    (out.new ≡ out.old) ⊎ ((first : List (Latest × List Life)) × ((later : List (Latest × List Life)) × (rows ≡ first ++ later)
    × Appends out.old out.new (head ++ flat_map text_of first)))
StopsRows head text_of rows out Write = AppendsPrefix out.old out.new (head ++ flat_map text_of rows)
