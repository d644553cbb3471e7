use Rattle.std.proofs.{Common.{rules}, lemmas.Result.{IfErr-weaker, IfOk-weaker}}
use Rattle.mdns_survey.proofs.SurveyLemmas.{refuses-plain, surveys-plain}
use Rattle.mdns_survey.proofs.survey.survey.Goals as goal

pub returns-clause-written : goal.returns-clause-written
returns-clause-written g c =
    IfOk-weaker c.survey_request.result _ _
    (λ summaries written captures known. let text = written captures known in (
      text.0,
      surveys-plain c.report_about_all.ensures c.args.ask c.args.at c.plain.result c.plain.ensures captures summaries.items text.0 text.1,
      text.2,
    ))
    c.survey_request.ensures.written

pub returns-clause-refused : goal.returns-clause-refused
returns-clause-refused g c = search (rules, IfErr-weaker, refuses-plain)
