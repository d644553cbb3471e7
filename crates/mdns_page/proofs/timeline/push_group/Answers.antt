use Rattle.std.proofs.{Common.{◌∙◌, ◌++◌, ℕ, ap, codes, length, map, sym}, lemmas.List.{length-map}}
use Rattle.std.specs.String.{string_bytes}
use Rattle.mdns_page.specs.{Counts.{commas}, Timeline.{counted_lent, group_count, group_text}}
use Rattle.mdns_page.proofs.PartLemmas.{parts8}
use Rattle.mdns_page.proofs.timeline.push_group.Goals as goal

pub returns : goal.returns
unfolding group_text
returns c =
    let before = string_bytes c.push_str.new.self in
    parts8 _ _ _ _ _ _ _ _ _ _ _ _ _ _ _ _ _ c.in_ok-push_group_begin.ensures c.in_ok-push_group_name.ensures
    c.in_ok-push_axis_picture.ensures c.in_ok-push_str.ensures.bytes
    (c.in_ok-push_group_words.ensures
    ∙ ap (λ (n : ℕ). before ++ (group_count c.args.part n ++ codes ", " ++ commas c.live_rows.result ++ codes " live"))
    (sym (length-map c.args.rows.now counted_lent))
    ∙ ap (λ (n : ℕ). before ++ (group_count c.args.part (length (map counted_lent c.args.rows.now)) ++ codes ", " ++ commas n ++ codes " live"))
    c.live_rows.ensures)
    c.in_ok-push_str-2.ensures.bytes c.in_ok-push_rows.ensures c.in_ok-push_str-3.ensures.bytes
