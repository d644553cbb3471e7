-- What a task writes, and why it is refused.
use Rattle.std.specs.Prelude.{ℕ, Bool, true, false, List, [], codes, length, map, string_bytes}
use Rattle.mdns_browse.specs.declared.report.{Form.{Form}, Form.TheVariants.{Pretty}}
use Rattle.mdns_capture.specs.{declared.stream.Source.{Ghosts}, Output.{Writing}}
use Rattle.mdns_survey.specs.{Answer.{IsRefusedOf, Reports}, Question.{Asked, asked_lives, asked_of}}
use Rattle.mdns_survey.specs.declared.request.Request.TheVariants.{Check, Lives}
use Rattle.mdns_listeners.specs.{Groups.{grouped}, Together.{are_compared}, Warned.{asked_warned}}
use Rattle.mdns_page.specs.{Page.{asked_page}, ServiceLives.{asked_service_lives}}
use Rattle.command_line.specs.declared.words.{Task.{Task}, Task.TheVariants.{Survey, Services, Page}}

-- lives in this form, of so many files, come after warnings
abbrev pub is_warned : Form → ℕ → Bool
is_warned Pretty count = are_compared count
is_warned _ count = false

-- what is asked for: lives after warnings of the files, each of which is a listener by itself, or without them
abbrev pub asked_if_warned : Bool → List (List ℕ) → Asked → Asked
asked_if_warned true names lives = asked_warned (grouped [] names) lives
asked_if_warned false names lives = lives

abbrev pub asked_in : Form → List (List ℕ) → Asked → Asked
asked_in form names lives = asked_if_warned (is_warned form (length names)) names lives

-- what a task asks of files with these names
abbrev pub asked_by : Task → List (List ℕ) → Asked
asked_by (Survey (Lives lives)) names = asked_in lives.form names (asked_lives lives)
asked_by (Survey request) names = asked_of request names
asked_by (Services form as_of window about) names =
    asked_in form names (asked_service_lives (record { form = form; as_of = as_of; window = window; about = about }))
asked_by (Page as_of window about listeners) names =
    asked_page names (grouped (map string_bytes listeners.items) names) about window as_of

-- of all but a check, an error line is written for each capture that isn't whole
abbrev pub says_endings : Task → Bool
says_endings (Survey Check) = false
says_endings task = true

-- what is asked for was written, and nothing else
abbrev pub AnswersTask : Task → List (List ℕ) → List (List ℕ) → Writing → Writing → ℕ → Type 0
AnswersTask task names captures out err status =
    Reports (asked_by task names) (says_endings task) (codes "mdnsmerge") names captures out err status

-- it was refused for some fault
abbrev pub IsTaskRefused : {R : Type 0} → Ghosts R → Task → List (List ℕ) → List R → Writing → Writing → Type 0
IsTaskRefused source task names readers out err =
    IsRefusedOf source (asked_by task names) (codes "mdnsmerge") names readers out err
