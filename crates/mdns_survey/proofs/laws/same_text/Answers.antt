use Rattle.mdns_survey.specs.Surveys.{SurveysReport}
use Rattle.mdns_survey.proofs.{FactLemmas.{same-captures, same-texts}, TextLemmas.{report-by-facts}}
use Rattle.mdns_survey.proofs.laws.same_text.Goals as goal

pub returns-clause-shared : goal.returns-clause-shared
returns-clause-shared c = λ captures others request.
    same-captures c.one_reading.ensures.unique c.one_telling.ensures.unique (λ captures. SurveysReport captures request)
    (report-by-facts c.same_report_in.ensures.shared c.same_report_in.ensures.same request) captures others

pub returns-clause-same : goal.returns-clause-same
returns-clause-same c = λ captures others request.
    same-texts c.one_reading.ensures.unique c.one_telling.ensures.unique (λ captures. SurveysReport captures request)
    (report-by-facts c.same_report_in.ensures.shared c.same_report_in.ensures.same request) captures others
