use Rattle.mdns_survey.specs.LivesAnswer.{SurveysLives}
use Rattle.mdns_survey.proofs.{FactLemmas.{same-captures, same-texts}, LivesLawLemmas.{lives-by-facts}}
use Rattle.mdns_survey.proofs.laws.same_lives.Goals as goal

pub returns-clause-shared : goal.returns-clause-shared
returns-clause-shared c = λ which window form about captures others as_of.
    same-captures c.one_reading.ensures.unique c.one_telling.ensures.unique
    (λ captures. SurveysLives which window form about captures as_of)
    (lives-by-facts c.one_all.ensures.shared c.one_all.ensures.same which window form about as_of) captures others

pub returns-clause-same : goal.returns-clause-same
returns-clause-same c = λ which window form about captures others as_of.
    same-texts c.one_reading.ensures.unique c.one_telling.ensures.unique (λ captures. SurveysLives which window form about captures as_of)
    (lives-by-facts c.one_all.ensures.shared c.one_all.ensures.same which window form about as_of) captures others
