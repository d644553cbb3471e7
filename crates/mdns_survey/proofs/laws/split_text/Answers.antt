use Rattle.mdns_survey.specs.Surveys.{SurveysReport}
use Rattle.mdns_survey.proofs.{ByteLemmas.{bytes_of_parts}, SplitLemmas.{parts-survey, same-split, whole-survey}}
use Rattle.mdns_survey.proofs.TextLemmas.{report-by-facts}
use Rattle.mdns_survey.proofs.laws.split_text.Goals as goal

pub returns-clause-parts : goal.returns-clause-parts
returns-clause-parts c = λ before after bytes front back ending request.
    parts-survey c.one_reading.ensures.unique c.one_telling.ensures.unique c.one_packet_outcome.ensures.exists
    c.cut_at_a_packet_header.ensures.first c.cut_at_a_packet_header.ensures.second (λ captures. SurveysReport captures request)
    (report-by-facts c.same_report_in.ensures.shared c.same_report_in.ensures.same request) before after bytes front back ending

pub returns-clause-whole : goal.returns-clause-whole
returns-clause-whole c = λ before after bytes front back ending request.
    whole-survey c.one_reading.ensures.unique c.one_telling.ensures.unique c.one_packet_outcome.ensures.exists
    c.cut_at_a_packet_header.ensures.first c.cut_at_a_packet_header.ensures.second (λ captures. SurveysReport captures request)
    (report-by-facts c.same_report_in.ensures.shared c.same_report_in.ensures.same request) before after bytes front back ending

pub returns-clause-same : goal.returns-clause-same
returns-clause-same c = λ before after bytes front back ending request.
    same-split c.one_reading.ensures.unique c.one_telling.ensures.unique c.one_packet_outcome.ensures.exists
    c.cut_at_a_packet_header.ensures.first c.cut_at_a_packet_header.ensures.second (λ captures. SurveysReport captures request)
    (report-by-facts c.same_report_in.ensures.shared c.same_report_in.ensures.same request) before after bytes front back ending

pub returns-clause-bytes : goal.returns-clause-bytes
returns-clause-bytes c = bytes_of_parts
