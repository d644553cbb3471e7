use Rattle.std.proofs.Common.{[], None, arith, inl, refl}
use Rattle.mdns_survey.specs.declared.request.AsOf.TheVariants.{Newest}
use Rattle.mdns_survey.proofs.{ListenedLemmas.{have-spans, known-read}, SurveyLemmas.{leaves-heard}}
use Rattle.mdns_listeners.proofs.listeners.ListenersRequestTextAnswer.text.Goals as goal

pub returns-in-Ok-clause-right : goal.returns-in-Ok-clause-right
returns-in-Ok-clause-right c = grind (arith, known-read, have-spans)

pub returns-in-Ok-clause-leaves : goal.returns-in-Ok-clause-leaves
returns-in-Ok-clause-leaves c = λ lefts hears. leaves-heard lefts c.args.readings.now hears [] Newest None (inl refl)
