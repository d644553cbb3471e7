use Rattle.std.proofs.Common.{List, map, option_map, string_bytes, subst, sym}
use Rattle.std.specs.Prelude.{Contains, ◌≤◌}
use Rattle.mdns_message.specs.declared.hearing.Hearing.{Hearing}
use Rattle.mdns_lives.specs.Chronicle.{Accounts, Chronicles}
use Rattle.mdns_browse.specs.declared.about.Subject.{Subject}
use Rattle.mdns_survey.specs.{Filter.{counted, filter_of}, Unmatched.{LeavesUnmatched}}
use Rattle.mdns_survey.proofs.{ListenedLemmas.{have-spans}, LivesLemmas.{early-ended}, SurveyLemmas.{leaves-heard}}
use Rattle.mdns_page.specs.{ByListener.{all_of}, Collected.{rows_lent}}
use Rattle.mdns_page.proofs.{ByListenerLemmas.{counted-in}, SurveyLemmas.{surveys-page}}
use Rattle.mdns_page.proofs.page.PageRequestTextAnswer.text.Goals as goal

pub returns-in-Some-clause-early : goal.returns-in-Some-clause-early
returns-in-Some-clause-early c = λ lefts hears.
    let is_axis = c.axis_of-axis.ensures hears.packets (have-spans lefts hears.packets hears.outcomes c.args.readings.now hears.read) in
    let heard = counted (filter_of c.args.self.as_of) hears.outcomes in
    let all = subst (Chronicles (all_of c.args.collector.lives)) (sym (counted-in (filter_of c.args.self.as_of) hears.outcomes)) hears.heard.0.all in
    early-ended lefts c.args.readings.now hears c.args.self.as_of c.axis_of-axis.result.now c.in-Some.newest is_axis.now
    c.in-Some.ensures.some.0
    (c.in-Some.ensures.some.1 heard (subst (λ (accounts : Accounts). Chronicles accounts heard) (sym c.all.ensures) all))

pub returns-in-Ok-page_of-clause-right : goal.returns-in-Ok-page_of-clause-right
returns-in-Ok-page_of-clause-right c = λ lefts hears.
    let spans = have-spans lefts hears.packets hears.outcomes c.args.readings.now hears.read in
    surveys-page (map string_bytes c.args.self.names.now) c.args.self.groups.now c.args.self.about c.args.self.window c.args.self.as_of lefts
    c.args.readings.now c.args.collector.lives (rows_lent c.in-Ok.rows) c.axis_of-axis.result (string_bytes c.in-Ok-page_of.text) hears
    hears.heard.0 (c.in-Ok.ensures hears.packets hears.outcomes hears.heard.1 spans) (c.axis_of-axis.ensures hears.packets spans)
    (subst (λ (all : Accounts). (heard : List Hearing) → Chronicles all heard → (hearing : Hearing) → Contains heard hearing
    → hearing.moment.nanos ≤ c.axis_of-axis.result.now.nanos) c.all.ensures c.in_default.ensures.none)
    c.in-Ok-page_of.ensures

pub returns-in-Ok-page_of-clause-leaves : goal.returns-in-Ok-page_of-clause-leaves
returns-in-Ok-page_of-clause-leaves c = λ lefts hears.
    let heard = counted (filter_of c.args.self.as_of) hears.outcomes in
    let unmatched = option_map string_bytes c.in-Ok-unmatched_in_lives.unmatched in
    let all = subst (Chronicles (all_of c.args.collector.lives)) (sym (counted-in (filter_of c.args.self.as_of) hears.outcomes)) hears.heard.0.all in
    leaves-heard lefts c.args.readings.now hears c.args.self.about c.args.self.as_of unmatched
    (subst (λ (about : List Subject). LeavesUnmatched about heard unmatched) c.as_slice.ensures
    (c.in-Ok-unmatched_in_lives.ensures heard (subst (λ (accounts : Accounts). Chronicles accounts heard) (sym c.all-2.ensures) all)))
