-- A question on captures: what answers it, and why it is refused.
use Rattle.std.specs.Prelude.{◌≡◌, ◌⊎◌, ℕ, Bool, true, false, List, [], ◌++◌, Option, Some, map, option_map}
use Rattle.std.specs.Io.KnownBytes.{Appends}
use Rattle.mdns_capture.specs.{declared.moment.Moment.{Moment}, Output.{AppendsPrefix, Writing}, Savefile.{PacketAt}}
use Rattle.mdns_survey.specs.declared.{reading.Reading.{Reading}, request.AsOf.{AsOf}, request.AsOf.TheVariants.{Newest}}
use Rattle.mdns_survey.specs.declared.request.{LivesRequest.{LivesRequest}, ReportRequest.{ReportRequest}, Request.{Request}}
use Rattle.mdns_survey.specs.declared.{request.Request.TheVariants.{Report, Lives, Check}, summary.Summary.{Summary}}
use Rattle.mdns_survey.specs.declared.survey.{SurveyFault.{SurveyFault}, SurveyFault.TheVariants.{File, Early, Memory, Write}}
use Rattle.mdns_browse.specs.declared.about.Subject.{Subject}
use Rattle.mdns_survey.specs.{Filter.{counted, filter_of}, Unmatched.{LeavesUnmatched}, Outcomes.{AllRead, Outcome}}
use Rattle.mdns_survey.specs.ProgramLines.{check_lines_text}
use Rattle.mdns_survey.specs.{LivesAnswer.{SurveysLivesWithHead, WritesFirstRecords}, Refusals.{FirstFails, HasNewest}, Request.{IsEarly}}
use Rattle.mdns_survey.specs.Surveys.{AllLeft, SurveysRequest}

-- What is asked of captures: which text answers it over captures with these summaries; as of when; about what, or about everything;
-- whether nothing is written before the text is complete; and else what may have been written when an allocation failed.
pub record Asked : Type 1 where
  pub Answers : List (List ℕ) → List Summary → List ℕ → Type 0
  pub as_of : AsOf
  pub about : List Subject
  pub at_once : Bool
  pub Stops : List (List ℕ) → Writing → Type 0

-- what is written at once, as of that moment, about these subjects
abbrev pub asked_at_once : (List (List ℕ) → List Summary → List ℕ → Type 0) → AsOf → List Subject → Asked
asked_at_once Answers as_of about =
    record { Answers = Answers; as_of = as_of; about = about; at_once = true; Stops = λ captures out. ⊥ }

-- the captures were read, and the text has a line for each
pub record IsCheck (names captures : List (List ℕ)) (summaries : List Summary) (text : List ℕ) : Type 0 where
  pub packets : List (List PacketAt)
  pub outcomes : List (List Outcome)
  pub read : AllRead captures packets outcomes summaries
  pub lines : text ≡ check_lines_text names summaries

-- a report
abbrev pub asked_report : ReportRequest → Asked
asked_report request = asked_at_once (λ captures. SurveysRequest captures request) request.as_of request.about

-- lives of records
abbrev pub asked_lives : LivesRequest → Asked
asked_lives request = record {
  Answers = SurveysLivesWithHead request;
  as_of = request.as_of;
  about = request.about;
  at_once = false;
  Stops = WritesFirstRecords request;
}

-- a writer, once a text was appended
abbrev pub past : List ℕ → Writing → Writing
past text out = record {
  old = option_map (λ (written : List ℕ). written ++ text) out.old;
  new = out.new;
  failures = out.failures;
  new_failures = out.new_failures;
  steady = out.steady;
}

-- the same with a text before all else
abbrev pub asked_after : List ℕ → Asked → Asked
asked_after preface asked = record {
  Answers = λ captures summaries text.
      (rest : List ℕ) × (text ≡ preface ++ rest) × asked.Answers captures summaries rest;
  as_of = asked.as_of;
  about = asked.about;
  at_once = asked.at_once;
  Stops = λ captures out. asked.Stops captures (past preface out);
}

-- what a request asks for of captures with these names
abbrev pub asked_of : Request → List (List ℕ) → Asked
asked_of (Report request) names = asked_report request
asked_of (Lives request) names = asked_lives request
asked_of Check names = asked_at_once (λ captures. IsCheck names captures) Newest []

-- THE ANSWER

-- The readers with these bytes left were listened to: each capture has its packets, which came to its outcomes, and its reading,
-- and the packets of all captures, with their outcomes, were heard.
pub record HearsReaders (Heard : List (List PacketAt) → List (List Outcome) → Type 0) (lefts : List (Option (List ℕ)))
    (readings : List Reading) : Type 0 where
  pub packets : List (List PacketAt)
  pub outcomes : List (List Outcome)
  pub read : AllLeft lefts packets outcomes readings
  pub heard : Heard packets outcomes

-- where the bytes of the readers are known, the text answers over them
abbrev pub IsAnswer : Asked → List (Option (List ℕ)) → List Summary → List ℕ → Type 0
IsAnswer asked lefts summaries text =
    (captures : List (List ℕ)) → lefts ≡ map Some captures → asked.Answers captures summaries text

-- and an answer was written
abbrev pub WritesAnswer : Asked → List (Option (List ℕ)) → List Summary → Writing → Type 0
WritesAnswer asked lefts summaries out =
    (captures : List (List ℕ)) → lefts ≡ map Some captures
    → (text : List ℕ) × asked.Answers captures summaries text × Appends out.old out.new text

-- What is unmatched over the captures, by those hearings that count.
pub record LeavesUnmatchedIn (about : List Subject) (as_of : AsOf) (captures : List (List ℕ)) (unmatched : Option (List ℕ)) : Type 0 where
  pub packets : List (List PacketAt)
  pub outcomes : List (List Outcome)
  pub summaries : List Summary
  pub read : AllRead captures packets outcomes summaries
  pub leaves : LeavesUnmatched about (counted (filter_of as_of) outcomes) unmatched

-- and where the bytes of the readers are known
abbrev pub LeavesUnmatchedOf : Asked → List (Option (List ℕ)) → Option (List ℕ) → Type 0
LeavesUnmatchedOf asked lefts unmatched =
    (captures : List (List ℕ)) → lefts ≡ map Some captures → LeavesUnmatchedIn asked.about asked.as_of captures unmatched

-- WHY THERE IS NONE

-- the newest hearing is at that moment, and an earlier one was asked for
abbrev pub IsTooEarly : AsOf → List (Option (List ℕ)) → Moment → Type 0
IsTooEarly as_of lefts newest =
    IsEarly as_of newest × ((captures : List (List ℕ)) → lefts ≡ map Some captures → HasNewest captures newest)

-- Why what is asked isn't answered, over readers with these bytes left: the first reader that fails; a moment earlier than the
-- newest hearing's, which the fault carries; a failed allocation; or a failed write, before which a prefix was written.
abbrev pub Refuses : Asked → List (Option (List ℕ)) → Writing → SurveyFault → Type 0
Refuses asked lefts out (File index fault) = FirstFails lefts index fault
Refuses asked lefts out (Early newest) = IsTooEarly asked.as_of lefts newest
Refuses asked lefts out Memory =
    (out.new ≡ out.old) ⊎ ((captures : List (List ℕ)) → lefts ≡ map Some captures → asked.Stops captures out)
Refuses asked lefts out Write =
    (captures : List (List ℕ)) → lefts ≡ map Some captures
    → (summaries : List Summary) × ((text : List ℕ) × asked.Answers captures summaries text × AppendsPrefix out.old out.new text)
