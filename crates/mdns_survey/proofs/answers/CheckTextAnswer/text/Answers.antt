use Rattle.std.proofs.Common.{[], None, inl, refl}
use Rattle.mdns_survey.specs.declared.request.AsOf.TheVariants.{Newest}
use Rattle.mdns_survey.proofs.SurveyLemmas.{leaves-heard, read-heard}
use Rattle.mdns_survey.proofs.answers.CheckTextAnswer.text.Goals as goal

pub returns-in-Ok-clause-right : goal.returns-in-Ok-clause-right
returns-in-Ok-clause-right c = λ lefts hears captures known. record {
  packets = hears.packets;
  outcomes = hears.outcomes;
  read = read-heard lefts c.args.readings.now hears captures known;
  lines = c.in-Ok.ensures;
}

pub returns-in-Ok-clause-leaves : goal.returns-in-Ok-clause-leaves
returns-in-Ok-clause-leaves c = λ lefts hears. leaves-heard lefts c.args.readings.now hears [] Newest None (inl refl)
