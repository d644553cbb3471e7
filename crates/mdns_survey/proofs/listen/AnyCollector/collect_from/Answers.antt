use Rattle.std.proofs.lemmas.Result.{IfOk-weaker}
use Rattle.mdns_survey.proofs.ListenedLemmas.{hears-more}
use Rattle.mdns_survey.proofs.listen.AnyCollector.collect_from.Goals as goal

pub returns-clause-heard : goal.returns-clause-heard
returns-clause-heard g c =
    IfOk-weaker c.listen_with.result _ _ (λ reading taken. hears-more g.H.Hearer.Stands _ _ _ reading taken) c.listen_with.ensures.taken
