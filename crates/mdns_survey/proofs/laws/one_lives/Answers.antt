use Rattle.mdns_survey.specs.LivesAnswer.{SurveysLives}
use Rattle.mdns_survey.proofs.{FactLemmas.{one-survey}, LivesLawLemmas.{lives-by-facts}}
use Rattle.mdns_survey.proofs.laws.one_lives.Goals as goal

pub returns : goal.returns
returns c = λ which window form about captures as_of.
    one-survey c.one_reading.ensures.unique c.one_telling.ensures.unique (λ captures. SurveysLives which window form about captures as_of)
    (lives-by-facts c.one_all.ensures.shared c.one_all.ensures.same which window form about as_of) captures
