use Rattle.std.proofs.Common.{arith, ◌≡◌, ◌∙◌, [], map, string_bytes}
use Rattle.mdns_survey.specs.Said.{ending_lines}
use Rattle.mdns_survey.proofs.SaidLemmas.{no-names, no-summaries, so_far-all, so_far-ends, so_far-first, so_far-more}
use Rattle.mdns_survey.proofs.error_lines.say_each_ending.Goals as goal

pub returns-clause-whole : goal.returns-clause-whole
returns-clause-whole g c =
    let none : ending_lines c.args.program.now (map string_bytes c.loop-name.names.now) c.loop-name.summaries.now ≡ [] =
    grind (arith, no-names, string_bytes) in
    so_far-all c.args.program.now _ _ _ _ c.loop-name.invariant.far none

pub returns-in_default-split_first-clause-whole : goal.returns-in_default-split_first-clause-whole
returns-in_default-split_first-clause-whole g c =
    let none : ending_lines c.args.program.now (map string_bytes c.loop-name.names.now) c.loop-name.summaries.now ≡ [] =
    grind (arith, no-summaries, string_bytes) in
    so_far-all c.args.program.now _ _ _ _ c.loop-name.invariant.far none

pub loop-name-preserved : goal.loop-name-preserved
loop-name-preserved g c =
    let well = c.say_ending.ensures.well in
    let left = so_far-first c.args.program.now string_bytes _ _ _ _ _ _ _ _ _ c.in-Some.ensures.cases.0
    c.in-Some-split_first.ensures.cases.0 c.loop-name.invariant.far in
    record {
      far = so_far-more c.args.program.now _ _ _ _ _ _ left c.if-not-say_ending.ensures.whole;
      stays = λ s. well.stays (c.loop-name.invariant.stays s);
      unfailed = c.if-not-say_ending.ensures.well.unfailed ∙ c.loop-name.invariant.unfailed;
    }

pub returns-then-not-say_ending-clause-prefix : goal.returns-then-not-say_ending-clause-prefix
returns-then-not-say_ending-clause-prefix g c =
    let left = so_far-first c.args.program.now string_bytes _ _ _ _ _ _ _ _ _ c.in-Some.ensures.cases.0
    c.in-Some-split_first.ensures.cases.0 c.loop-name.invariant.far in
    so_far-ends c.args.program.now _ _ _ _ _ _ left c.if-not-say_ending.ensures.prefix
