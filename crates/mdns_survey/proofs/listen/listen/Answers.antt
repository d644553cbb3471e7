use Rattle.mdns_survey.proofs.HeardLemmas.{listens-heard}
use Rattle.mdns_survey.proofs.listen.listen.Goals as goal

pub returns-clause-heard : goal.returns-clause-heard
returns-clause-heard g c =
    listens-heard (g.R.Source.remaining c.args.reader) _ _ _ c.in-Ok.reading c.new-gathering.ensures
    c.in-Ok-finish.ensures c.in-Ok.ensures.taken
