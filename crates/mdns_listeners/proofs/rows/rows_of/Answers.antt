use Rattle.std.proofs.{Common.{◌≡◌, ap, ◌∙◌, length, map, rules, subst, sym}, lemmas.{List.{take_at}, List.Elements.{filter_from_retain}}}
use Rattle.std.specs.List.{filter}
use Rattle.mdns_listeners.specs.{HeardMessage.{AreHeardIn, has_times}, KeptMessage.{filled, told_by, told_of_rows}}
use Rattle.mdns_listeners.proofs.RowLemmas.{numbered-times, rows-heard}
use Rattle.mdns_listeners.proofs.rows.rows_of.Goals as goal
use Rattle.std.proofs.Common.{arith}

pub fill-requires-clause-numbered : goal.fill-requires-clause-numbered
fill-requires-clause-numbered c = grind (arith, take_at, numbered-times)

pub returns : goal.returns
returns c = λ messages placed.
    let rows = c.in_ok-rows.rows.items in
    let long : length c.blank_rows.new.numbers ≡ c.in_ok-numbers.numbers.len = search rules in
    let numbers : c.as_slice.result.now ≡ c.blank_rows.new.numbers =
    c.as_slice.ensures.value ∙ take_at c.blank_rows.new.numbers _ c.in_ok-numbers.numbers.len long in
    let lent = c.as_mut_slice-2.ensures.value in
    let filtered = filter_from_retain _ has_times (λ p x b q called. search rules) _ _ _ c.retain.ensures.filtered in
    let made : c.fill.new.rows ≡ map (filled (told_of_rows rows c.blank_rows.new.numbers c.args.times.now)) rows =
    c.in_ok-fill.ensures ∙ (λ i. map (filled (told_of_rows (lent i) (numbers i) c.args.times.now)) (lent i)) in
    let wide : length c.fill.new.rows ≡ c.in_ok-rows.rows.len = search rules in
    let heard = rows-heard messages c.args.kept.items rows c.blank_rows.new.numbers c.args.times.now c.in_ok-rows.ensures.ascending
    placed c.in_ok-rows.ensures.numbered c.requires.within in
    subst (AreHeardIn (told_by messages c.args.times.now))
    (sym (filtered ∙ ap (filter has_times) (take_at c.fill.new.rows _ c.in_ok-rows.rows.len wide ∙ made))) heard
