-- Answers after warnings, over the readers listened to.
use Rattle.std.proofs.Common.{◌≡◌, ◌∙◌, ℕ, List, ◌++◌, Option, None, Some, ap, append_assoc, inl, inr, map, refl, subst, sym}
use Rattle.std.proofs.lemmas.Result.{IfErr-weaker, IfOk-weaker}
use Rattle.std.specs.Prelude.{option_map}
use Rattle.mdns_capture.specs.{Output.{Writing}, Savefile.{PacketAt}}
use Rattle.mdns_survey.specs.declared.{reading.Reading.{Reading}, summary.Summary.{Summary}, survey.SurveyFault.{SurveyFault}}
use Rattle.mdns_survey.specs.{declared.survey.SurveyFault.TheVariants.{File, Early, Memory, Write}, Outcomes.{Outcome}}
use Rattle.mdns_survey.specs.{Question.{Asked, HearsReaders, Refuses, WritesAnswer, asked_after, past}, Readings.{summaries_of}}
use Rattle.mdns_survey.proofs.ListenedLemmas.{have-spans, known-read}
use Rattle.mdns_listeners.specs.{Groups.{Grouped}, Warned.{AreWarnings, WarnsOf, asked_warned}}

-- one text was appended, and then another
past-past : (first more : List ℕ) (out : Writing) → past more (past first out) ≡ past (first ++ more) out
past-past first more out = ap (λ (old : Option (List ℕ)). record {
  old = old;
  new = out.new;
  failures = out.failures;
  new_failures = out.new_failures;
  steady = out.steady;
}) (same out.old) where
  same : (old : Option (List ℕ))
      → option_map (λ (written : List ℕ). written ++ more) (option_map (λ (written : List ℕ). written ++ first) old)
      ≡ option_map (λ (written : List ℕ). written ++ (first ++ more)) old
  same None = refl
  same (Some text) = ap (λ (t : List ℕ). Some t) (append_assoc text first more)

module _ {Heard : List (List PacketAt) → List (List Outcome) → Type 0} (groups : Grouped) (asked : Asked)
    (lefts : List (Option (List ℕ))) (readings : List Reading) (hears : HearsReaders Heard lefts readings)
    (preface warnings before : List ℕ) (warns : WarnsOf groups hears.packets hears.outcomes warnings)
    (is : before ≡ preface ++ warnings) (out : Writing) where
  are-warnings : (captures : List (List ℕ)) → lefts ≡ map (λ x. Some x) captures → AreWarnings groups captures warnings
  are-warnings captures known = record {
    packets = hears.packets;
    outcomes = hears.outcomes;
    summaries = summaries_of readings;
    read = known-read lefts captures hears.packets hears.outcomes readings known hears.read;
    warns = warns;
  }

  warned : (captures : List (List ℕ)) → lefts ≡ map (λ x. Some x) captures → (summaries : List Summary) (text : List ℕ)
      → (asked_after before asked).Answers captures summaries text
      → (asked_after preface (asked_warned groups asked)).Answers captures summaries text
  warned captures known summaries text (rest, whole, answers) = (
    warnings ++ rest,
    whole ∙ ap (λ (p : List ℕ). p ++ rest) is ∙ append_assoc preface warnings rest,
    (warnings, are-warnings captures known, (rest, refl, answers)),
  )

  pub warned-written : WritesAnswer (asked_after before asked) lefts (summaries_of readings) out
      → WritesAnswer (asked_after preface (asked_warned groups asked)) lefts (summaries_of readings) out
  warned-written written captures known =
      let (text, answers, appends) = written captures known in (text, warned captures known _ text answers, appends)

  pub warned-refused : (fault : SurveyFault) → Refuses (asked_after before asked) lefts out fault
      → Refuses (asked_after preface (asked_warned groups asked)) lefts out fault
  warned-refused (File index fault) why = why
  warned-refused (Early newest) why = why
  warned-refused Memory (inl untouched) = inl untouched
  warned-refused Memory (inr stops) = inr (λ captures known. (
    warnings,
    are-warnings captures known,
    subst (asked.Stops captures) (ap (λ (p : List ℕ). past p out) is ∙ sym (past-past preface warnings out)) (stops captures known),
  ))
  warned-refused Write why = λ captures known.
      let (summaries, (text, answers, prefix)) = why captures known in
      (summaries, (text, warned captures known summaries text answers, prefix))

-- WHAT FUNCTIONS ARE PROVED BY

pub ruleset for_write = (warned-refused, warned-written, IfErr-weaker, IfOk-weaker, have-spans)
