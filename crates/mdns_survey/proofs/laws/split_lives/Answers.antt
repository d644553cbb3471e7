use Rattle.mdns_survey.specs.LivesAnswer.{SurveysLives}
use Rattle.mdns_survey.proofs.{LivesLawLemmas.{lives-by-facts}, SplitLemmas.{parts-survey, same-split, whole-survey}}
use Rattle.mdns_survey.proofs.laws.split_lives.Goals as goal

pub returns-clause-parts : goal.returns-clause-parts
returns-clause-parts c = λ which window form about before after bytes front back ending as_of.
    parts-survey c.one_reading.ensures.unique c.one_telling.ensures.unique c.one_packet_outcome.ensures.exists
    c.cut_at_a_packet_header.ensures.first c.cut_at_a_packet_header.ensures.second
    (λ captures. SurveysLives which window form about captures as_of)
    (lives-by-facts c.one_all.ensures.shared c.one_all.ensures.same which window form about as_of) before after bytes front back ending

pub returns-clause-whole : goal.returns-clause-whole
returns-clause-whole c = λ which window form about before after bytes front back ending as_of.
    whole-survey c.one_reading.ensures.unique c.one_telling.ensures.unique c.one_packet_outcome.ensures.exists
    c.cut_at_a_packet_header.ensures.first c.cut_at_a_packet_header.ensures.second
    (λ captures. SurveysLives which window form about captures as_of)
    (lives-by-facts c.one_all.ensures.shared c.one_all.ensures.same which window form about as_of) before after bytes front back ending

pub returns-clause-same : goal.returns-clause-same
returns-clause-same c = λ which window form about before after bytes front back ending as_of.
    same-split c.one_reading.ensures.unique c.one_telling.ensures.unique c.one_packet_outcome.ensures.exists
    c.cut_at_a_packet_header.ensures.first c.cut_at_a_packet_header.ensures.second
    (λ captures. SurveysLives which window form about captures as_of)
    (lives-by-facts c.one_all.ensures.shared c.one_all.ensures.same which window form about as_of) before after bytes front back ending
