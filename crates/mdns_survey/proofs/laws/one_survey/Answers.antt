use Rattle.mdns_survey.specs.Surveys.{SurveysReport}
use Rattle.mdns_survey.proofs.{FactLemmas.{one-survey}, TextLemmas.{report-by-facts}}
use Rattle.mdns_survey.proofs.laws.one_survey.Goals as goal

pub returns : goal.returns
returns c = λ captures request.
    one-survey c.one_reading.ensures.unique c.one_telling.ensures.unique (λ captures. SurveysReport captures request)
    (report-by-facts c.same_report_in.ensures.shared c.same_report_in.ensures.same request) captures
