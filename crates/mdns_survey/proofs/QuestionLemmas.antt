-- The survey of a question, and why it is refused.
use Rattle.std.proofs.Common.{arith, ◌≡◌, ◌∙◌, ℕ, Bool, List, [], ◌++◌, append-nil, Option, None, Some, inl, inr, refl, sym, ap, subst}
use Rattle.std.specs.Prelude.{option_map}
use Rattle.mdns_capture.specs.{Output.{Writing}, Savefile.{PacketAt}}
use Rattle.mdns_survey.specs.declared.{reading.Reading.{Reading}, summary.Summary.{Summary}, survey.SurveyFault.{SurveyFault}}
use Rattle.mdns_survey.specs.{declared.survey.SurveyFault.TheVariants.{File, Early, Memory, Write}, Outcomes.{Outcome}}
use Rattle.mdns_survey.specs.{ProgramLines.{IfFile}, Question.{Asked, HearsReaders, Refuses, WritesAnswer, asked_after, past}}
use Rattle.mdns_survey.specs.{Readings.{summaries_of}, Refusals.{BlamesReaders}, Surveys.{Listened}}

-- the readers that were listened to for a question
pub hears-readers : {L : Type 0} (HeardAll : L → L → List (List PacketAt) → List (List Outcome) → Type 0)
    (Heard : L → List (List PacketAt) → List (List Outcome) → Type 0)
    (lefts : List (Option (List ℕ))) (begun now : L) (readings lent : List Reading) → HeardAll begun begun [] []
    → ((l : L) (packets : List (List PacketAt)) (outcomes : List (List Outcome)) → HeardAll begun l packets outcomes
    → Heard l packets outcomes)
    → lent ≡ readings → Listened HeardAll lefts begun now readings → HearsReaders (Heard now) lefts lent
hears-readers HeardAll Heard lefts begun now readings lent nothing heard is listened = grind arith

-- the summaries are those of the readings, also where these are lent again
pub answer-summed : (asked : Asked) (lefts : List (Option (List ℕ))) (out : Writing) (readings lent again : List Reading)
    (summaries : List Summary) → lent ≡ readings → again ≡ readings → summaries ≡ summaries_of lent
    → WritesAnswer asked lefts (summaries_of again) out → WritesAnswer asked lefts summaries out
answer-summed asked lefts out readings lent again summaries is same are =
    subst (λ (ss : List Summary). WritesAnswer asked lefts ss out) (sym (are ∙ ap summaries_of (is ∙ sym same)))

-- a fault that isn't of a reader blames none
pub blames-no-reader : {R : Type 0} (steady : R → Bool) (readers : List R) (fault : SurveyFault) → IfFile fault (λ index why. ⊥)
    → BlamesReaders steady readers fault
blames-no-reader steady readers (File index fault) none = absurd none
blames-no-reader steady readers (Early newest) none = record { within = tt; no_read = λ all. tt; spared = tt }
blames-no-reader steady readers Memory none = record { within = tt; no_read = λ all. tt; spared = tt }
blames-no-reader steady readers Write none = record { within = tt; no_read = λ all. tt; spared = tt }

-- AN EMPTY PREFACE MAKES NO DIFFERENCE

past-nothing : (out : Writing) → past [] out ≡ out
past-nothing out = ap (λ (old : Option (List ℕ)). record {
  old = old;
  new = out.new;
  failures = out.failures;
  new_failures = out.new_failures;
  steady = out.steady;
}) (same out.old) where
  same : (old : Option (List ℕ)) → option_map (λ (written : List ℕ). written ++ []) old ≡ old
  same None = refl
  same (Some text) = ap (λ (t : List ℕ). Some t) (append-nil text)

module _ (asked : Asked) (lefts : List (Option (List ℕ))) (preface : List ℕ) (none : preface ≡ []) (out : Writing) where
  bare : (captures : List (List ℕ)) (summaries : List Summary) (text : List ℕ)
      → (asked_after preface asked).Answers captures summaries text → asked.Answers captures summaries text
  bare captures summaries text (rest, is, answers) =
      subst (asked.Answers captures summaries) (sym (is ∙ ap (λ (p : List ℕ). p ++ rest) none)) answers

  pub bare-written : (summaries : List Summary) → WritesAnswer (asked_after preface asked) lefts summaries out
      → WritesAnswer asked lefts summaries out
  bare-written summaries written = λ captures known.
      let (text, answers, appends) = written captures known in (text, bare captures summaries text answers, appends)

  pub bare-refused : (fault : SurveyFault) → Refuses (asked_after preface asked) lefts out fault → Refuses asked lefts out fault
  bare-refused (File index fault) why = why
  bare-refused (Early newest) why = why
  bare-refused Memory (inl untouched) = inl untouched
  bare-refused Memory (inr stops) = inr (λ captures known.
      subst (asked.Stops captures) (ap (λ (p : List ℕ). past p out) none ∙ past-nothing out) (stops captures known))
  bare-refused Write why = λ captures known.
      let (summaries, (text, answers, prefix)) = why captures known in
      (summaries, (text, bare captures summaries text answers, prefix))

-- WHAT FUNCTIONS ARE PROVED BY

pub ruleset for_survey_with = (answer-summed, bare-refused, bare-written, blames-no-reader, hears-readers)
