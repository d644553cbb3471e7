use Rattle.std.proofs.Common.{List, Option, IsSomeAnd, ◌<◌, option_map, string_bytes, subst}
use Rattle.mdns_capture.specs.declared.moment.Moment.{Moment}
use Rattle.mdns_browse.specs.{Report.{IsReportIn}, declared.about.Subject.{Subject}}
use Rattle.mdns_survey.specs.{Filter.{counted, filter_of}, Unmatched.{LeavesUnmatched}}
use Rattle.mdns_survey.proofs.SurveyLemmas.{answers-request, early-asked, early-weaker, is-newest, leaves-heard, none-later, on-time}
use Rattle.mdns_survey.proofs.SurveyLemmas.{reports-as-of, too-early}
use Rattle.mdns_survey.proofs.survey.ReportRequestTextAnswer.text.Goals as goal

pub returns-in-Ok-headed-clause-right : goal.returns-in-Ok-headed-clause-right
returns-in-Ok-headed-clause-right c = λ lefts hears.
    let request = c.args.self in
    let now = c.unwrap_or-now.result in
    let heard = counted (filter_of request.as_of) hears.outcomes in
    let stands = c.in-Ok.ensures heard hears.heard in
    let tells = c.newest_or_epoch.ensures.newest heard stands in
    let report = string_bytes c.in-Ok-report_in.report in
    answers-request lefts c.args.readings.now hears request c.in-Ok-headed.ensures.0 report (string_bytes c.in-Ok-headed.text)
    c.in-Ok-headed.ensures.1 c.in-Ok-headed.ensures.2
    (reports-as-of request _ heard c.moment.result _ now report tells c.newest_or_epoch.ensures.value c.moment.ensures
    c.unwrap_or-now.ensures (none-later _ heard now tells (on-time _ now c.in-Ok-report_in.report c.in-Ok-report_in.ensures.never))
    (subst (λ (about : List Subject). IsReportIn about request.form request.ask heard now.nanos report) c.as_slice-about.ensures
    (c.in-Ok-report_in.ensures.written heard stands)))

pub returns-in-Err-report_in-clause-early : goal.returns-in-Err-report_in-clause-early
returns-in-Err-report_in-clause-early c =
    early-weaker c.in-Err-report_in.fault
    (λ newest early lefts hears.
    let heard = counted (filter_of c.args.self.as_of) hears.outcomes in
    too-early lefts c.args.readings.now hears c.args.self.as_of newest
    (subst (λ (at : Option Moment). IsSomeAnd at (λ m. m.nanos < newest.nanos)) c.moment.ensures
    (early-asked c.moment.result _ _ _ _ c.newest_or_epoch.ensures.value c.unwrap_or-now.ensures early.0 early.1))
    (is-newest _ _ c.newest_or_epoch.ensures.newest early.0 heard (c.in-Ok.ensures heard hears.heard)))
    c.in-Err-report_in.ensures.early

pub returns-in-Ok-headed-clause-leaves : goal.returns-in-Ok-headed-clause-leaves
returns-in-Ok-headed-clause-leaves c = λ lefts hears.
    let request = c.args.self in
    let heard = counted (filter_of request.as_of) hears.outcomes in
    let unmatched = option_map string_bytes c.in-Ok-unmatched_in_cache.unmatched in
    leaves-heard lefts c.args.readings.now hears request.about request.as_of unmatched
    (subst (λ (about : List Subject). LeavesUnmatched about heard unmatched) c.as_slice-about.ensures
    (c.in-Ok-unmatched_in_cache.ensures heard (c.in-Ok.ensures heard hears.heard)))
