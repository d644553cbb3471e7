use Rattle.std.proofs.{Common.{◌∙◌, ◌+◌, ◌++◌, ℕ, List, Some, ap, map, option_map, string_bytes, subst}, lemmas.Bool.{OnFalse_at, OnFalse_from, OnTrue_at, OnTrue_from}}
use Rattle.mdns_capture.specs.Output.{writing}
use Rattle.mdns_survey.specs.{declared.summary.Summary.{Summary}, ProgramLines.{said_text, unmatched_line_text}}
use Rattle.mdns_survey.specs.Said.{Says, SaysAll, ending_lines, unmatched_lines}
use Rattle.mdns_survey.proofs.SaidLemmas.{is_said, says-more}
use Rattle.mdns_survey.proofs.error_lines.say_lines.Goals as goal

pub returns-in-Some : goal.returns-in-Some
returns-in-Some g c =
    let program = c.args.program.now in
    let written = g.E.Sink.written in
    let first = c.say_each_ending.ensures.well in
    let well = c.say.ensures.well in
    let none_failed = c.if-not-say_each_ending.ensures.well.unfailed in
    let all = subst (λ (summaries : List Summary). SaysAll program (ending_lines program (map string_bytes c.args.names.now) summaries)
    (written c.args.err.now) (written c.say_each_ending.new.err)) c.as_slice.ensures.value c.if-not-say_each_ending.ensures.whole in
    let is = is_said program (unmatched_line_text program c.as_str.result.now) c.unmatched_line_of.result c.unmatched_line_of.ensures in
    rw c.in-Some.is (subst (λ (words : List ℕ). Says program (ending_lines program (map string_bytes c.args.names.now) c.args.surveyed.now.summaries.items
    ++ unmatched_lines program (Some words)) (writing g.E.Sink c.args.err.now c.say.new.err)) c.as_str.ensures.value
    (says-more program c.say.result _ _ (said_text program c.unmatched_line_of.result) _ (writing g.E.Sink c.args.err.now c.say.new.err)
    all is c.say.ensures.whole c.say.ensures.prefix
    (OnTrue_from c.say.result _ (λ is_true. OnTrue_at is_true well.unfailed ∙ none_failed))
    (OnFalse_from c.say.result _ (λ is_false. OnFalse_at is_false well.failed ∙ ap (option_map (λ count. count + 1)) none_failed))
    (λ s. well.answers (first.stays s))))
