use Rattle.std.proofs.Common.{◌∙◌, ◌++◌, List, option_map, string_bytes, subst, sym}
use Rattle.std.specs.{Io.KnownBytes.{Appends}, List.{flat_map}}
use Rattle.mdns_capture.specs.Output.{writing}
use Rattle.mdns_lives.specs.Chronicle.{rows_of}
use Rattle.mdns_browse.specs.{LifeText.{lives_text, nanos_if_some}, declared.about.Subject.{Subject}}
use Rattle.mdns_survey.specs.{Chronicling.{FitsForm, StopsRows}, LivesAnswer.{kept_rows}, Filter.{counted, filter_of}}
use Rattle.mdns_survey.specs.Unmatched.{LeavesUnmatched}
use Rattle.mdns_survey.proofs.{SurveyLemmas.{leaves-heard}, KeptLemmas.{Row}, ListenedLemmas.{have-spans}}
use Rattle.mdns_survey.proofs.LivesLemmas.{early-ended, stops-lives, writes-lives}
use Rattle.mdns_survey.proofs.lives_answer.LivesRequestAnswer.write.Goals as goal

pub returns-in-Some-clause-refused : goal.returns-in-Some-clause-refused
returns-in-Some-clause-refused g c = λ lefts hears.
    let request = c.args.self in
    let readings = c.args.readings.now in
    early-ended lefts readings hears request.as_of c.captures_end-end_of_captures.result c.in-Some.newest
    (c.captures_end-end_of_captures.ensures hears.packets (have-spans lefts hears.packets hears.outcomes readings hears.read))
    c.in-Some.ensures.some.0
    (c.in-Some.ensures.some.1 _ (c.in-Ok.ensures (counted (filter_of request.as_of) hears.outcomes) hears.heard))

pub returns-in-Ok-write_rows-clause-written : goal.returns-in-Ok-write_rows-clause-written
returns-in-Ok-write_rows-clause-written g c =
    let request = c.args.self in
    let readings = c.args.readings.now in
    let end = c.captures_end-end_of_captures.result in
    let rows = c.chosen-rows.result in
    let layout = c.in-Ok-layout_of.layout in
    let before = c.in-Ok-text_before.text in
    let out = writing g.W.Sink c.args.out.now c.write_rows.new.out in
    λ lefts hears.
    let spans = have-spans lefts hears.packets hears.outcomes readings hears.read in
    let heard = counted (filter_of request.as_of) hears.outcomes in
    let told = c.in-Ok.ensures heard hears.heard in
    let fits : FitsForm request.form end.nanos (kept_rows request.about rows) layout =
    subst (λ (about : List Subject). FitsForm request.form end.nanos (kept_rows about rows) layout) c.as_slice-about.ensures
    (subst (λ (shown : List Row). FitsForm request.form end.nanos (kept_rows c.as_slice-about.result.now shown) layout)
    (c.chosen-columns.ensures.left heard told ∙ sym (c.chosen-rows.ensures.left heard told)) c.in-Ok-layout_of.ensures) in
    writes-lives request lefts readings (nanos_if_some c.captures_begin-begin.result) end hears (c.captures_begin-begin.ensures hears.packets spans)
    (c.captures_end-end_of_captures.ensures hears.packets spans) (c.in_default.ensures.none heard told) (rows_of c.in-Ok.lives) rows
    (c.chosen-rows.ensures.all heard told) (c.chosen-rows.ensures.left heard told) layout fits
    (string_bytes c.args.preface) c.in-Ok-text_before.ensures.0 (string_bytes before) c.in-Ok-text_before.ensures.1 c.in-Ok-text_before.ensures.2 out
    (subst (λ (about : List Subject). Appends out.old out.new
    (string_bytes before ++ flat_map (lives_text request.form layout.width end.nanos) (kept_rows about rows)))
    c.as_slice-about.ensures c.in-Ok-write_rows.ensures.written)

pub returns-in-Ok-write_rows-clause-leaves : goal.returns-in-Ok-write_rows-clause-leaves
returns-in-Ok-write_rows-clause-leaves g c = λ lefts hears.
    let request = c.args.self in
    let heard = counted (filter_of request.as_of) hears.outcomes in
    let unmatched = option_map string_bytes c.in-Ok-unmatched_in_lives.unmatched in
    leaves-heard lefts c.args.readings.now hears request.about request.as_of unmatched
    (subst (λ (about : List Subject). LeavesUnmatched about heard unmatched) c.as_slice-about.ensures
    (c.in-Ok-unmatched_in_lives.ensures heard (c.in-Ok.ensures heard hears.heard)))

pub returns-clause-refused : goal.returns-clause-refused
returns-clause-refused g c =
    let request = c.args.self in
    let readings = c.args.readings.now in
    let end = c.captures_end-end_of_captures.result in
    let rows = c.chosen-rows.result in
    let layout = c.in-Ok-layout_of.layout in
    let before = c.in-Ok-text_before.text in
    let out = writing g.W.Sink c.args.out.now c.write_rows.new.out in
    λ lefts hears.
    let spans = have-spans lefts hears.packets hears.outcomes readings hears.read in
    let heard = counted (filter_of request.as_of) hears.outcomes in
    let told = c.in-Ok.ensures heard hears.heard in
    let fits : FitsForm request.form end.nanos (kept_rows request.about rows) layout =
    subst (λ (about : List Subject). FitsForm request.form end.nanos (kept_rows about rows) layout) c.as_slice-about.ensures
    (subst (λ (shown : List Row). FitsForm request.form end.nanos (kept_rows c.as_slice-about.result.now shown) layout)
    (c.chosen-columns.ensures.left heard told ∙ sym (c.chosen-rows.ensures.left heard told)) c.in-Ok-layout_of.ensures) in
    stops-lives request lefts readings (nanos_if_some c.captures_begin-begin.result) end hears (c.captures_begin-begin.ensures hears.packets spans)
    (c.captures_end-end_of_captures.ensures hears.packets spans) (c.in_default.ensures.none heard told) (rows_of c.in-Ok.lives) rows
    (c.chosen-rows.ensures.all heard told) (c.chosen-rows.ensures.left heard told) layout fits
    (string_bytes c.args.preface) c.in-Ok-text_before.ensures.0 (string_bytes before) c.in-Ok-text_before.ensures.1 c.in-Ok-text_before.ensures.2 out c.in-Err-write_rows.fault
    (subst (λ (about : List Subject). StopsRows (string_bytes before) (lives_text request.form layout.width end.nanos)
    (kept_rows about rows) out c.in-Err-write_rows.fault) c.as_slice-about.ensures c.in-Err-write_rows.ensures.stops)
