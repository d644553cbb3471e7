use Rattle.std.proofs.Common.{option_map, string_bytes, subst}
use Rattle.mdns_browse.specs.{LifeText.{nanos_if_some}, declared.about.Subject.{Subject}}
use Rattle.std.specs.Prelude.{List}
use Rattle.mdns_survey.specs.{Filter.{counted, filter_of}, Unmatched.{LeavesUnmatched}}
use Rattle.mdns_survey.proofs.{ListenedLemmas.{have-spans}, LivesLemmas.{early-ended}, SurveyLemmas.{leaves-heard}}
use Rattle.mdns_page.proofs.ServiceLifeLemmas.{surveys-services}
use Rattle.mdns_page.proofs.service_lives.ServiceLivesRequestTextAnswer.text.Goals as goal

pub returns-in-Some-clause-early : goal.returns-in-Some-clause-early
returns-in-Some-clause-early c = λ lefts hears.
    let as_of = c.args.self.as_of in
    let readings = c.args.readings.now in
    early-ended lefts readings hears as_of c.captures_end-end_of_captures.result c.in-Some.newest
    (c.captures_end-end_of_captures.ensures hears.packets (have-spans lefts hears.packets hears.outcomes readings hears.read))
    c.in-Some.ensures.some.0 (c.in-Some.ensures.some.1 _ (c.in-Ok.ensures (counted (filter_of as_of) hears.outcomes) hears.heard))

pub returns-in-Ok-headed-clause-right : goal.returns-in-Ok-headed-clause-right
returns-in-Ok-headed-clause-right c = λ lefts hears.
    let request = c.args.self in
    let readings = c.args.readings.now in
    let spans = have-spans lefts hears.packets hears.outcomes readings hears.read in
    let heard = counted (filter_of request.as_of) hears.outcomes in
    let held = c.in-Ok.ensures heard hears.heard in
    surveys-services request lefts readings hears (nanos_if_some c.captures_begin-begin.result) c.captures_end-end_of_captures.result
    c.in-Ok-headed.ensures.0 (string_bytes c.in-Ok-text_of.report) (string_bytes c.in-Ok-headed.text) c.in-Ok-headed.ensures.1
    c.in-Ok-headed.ensures.2 (c.captures_begin-begin.ensures hears.packets spans) (c.captures_end-end_of_captures.ensures hears.packets spans)
    (c.in_default.ensures.none heard held) (c.in-Ok-text_of.ensures heard held)

pub returns-in-Ok-headed-clause-leaves : goal.returns-in-Ok-headed-clause-leaves
returns-in-Ok-headed-clause-leaves c = λ lefts hears.
    let request = c.args.self in
    let heard = counted (filter_of request.as_of) hears.outcomes in
    let unmatched = option_map string_bytes c.in-Ok-unmatched_in_lives.unmatched in
    leaves-heard lefts c.args.readings.now hears request.about request.as_of unmatched
    (subst (λ (about : List Subject). LeavesUnmatched about heard unmatched) c.as_slice.ensures
    (c.in-Ok-unmatched_in_lives.ensures heard (c.in-Ok.ensures heard hears.heard)))
