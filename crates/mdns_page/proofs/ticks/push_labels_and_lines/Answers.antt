use Rattle.std.proofs.Common.{◌∙◌, ◌++◌, List, ℕ, ap}
use Rattle.std.specs.{List.{flat_map}, String.{string_bytes}}
use Rattle.mdns_page.specs.{Lanes.{height}, Ticks.{step_of, symbols_text, tick_label, tick_line}}
use Rattle.mdns_page.proofs.PartLemmas.{parts10}
use Rattle.mdns_page.proofs.ticks.push_labels_and_lines.Goals as goal

pub returns : goal.returns
unfolding symbols_text
returns c =
    let axis = c.args.axis in
    let are = c.requires in
    parts10 _ _ _ _ _ _ _ _ _ _ _ _ _ _ _ _ _ _ _ _ _ c.in_ok-push_str.ensures.bytes c.in_ok-push_str-2.ensures.bytes
    (c.in_ok-push_labels.ensures ∙ ap (λ (all : List ℕ). string_bytes c.push_str-2.new.self ++ flat_map (tick_label axis (step_of axis)) all) are)
    c.in_ok-push_str-3.ensures.bytes
    (c.in_ok-push_grid.ensures ∙ ap (λ (all : List ℕ). string_bytes c.push_str-3.new.self ++ flat_map (tick_line axis 24) all) are)
    c.in_ok-push_str-4.ensures.bytes
    (c.in_ok-push_grid-2.ensures
    ∙ ap (λ (high : ℕ). string_bytes c.push_str-4.new.self ++ flat_map (tick_line axis high) c.args.moments.now) c.height.ensures
    ∙ ap (λ (all : List ℕ). string_bytes c.push_str-4.new.self ++ flat_map (tick_line axis (height c.args.lanes)) all) are)
    c.in_ok-push_str-5.ensures.bytes c.in_ok-push_bases.ensures c.in_ok-push_str-6.ensures.bytes
