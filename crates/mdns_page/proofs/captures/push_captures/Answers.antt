use Rattle.std.proofs.{Common.{◌∙◌, ◌++◌, ap, codes, sym, ℕ}, lemmas.List.{length-map}}
use Rattle.std.specs.String.{string_bytes}
use Rattle.mdns_page.specs.{Captures.{captures_text, facts_lent}, Counts.{count_text}}
use Rattle.mdns_page.proofs.PartLemmas.{parts3, parts8}
use Rattle.mdns_page.proofs.captures.push_captures.Goals as goal

pub returns : goal.returns
unfolding captures_text
returns c =
    let count = ap (λ (n : ℕ). string_bytes c.push_str-2.new.self ++ count_text n (codes "capture") (codes "captures"))
    (sym (length-map c.args.captures.now facts_lent)) in
    parts3 _ _ _ _ _ _ _ c.in_ok-push_str.ensures.bytes
    (parts8 _ _ _ _ _ _ _ _ _ _ _ _ _ _ _ _ _ c.in_ok-push_group_begin.ensures
    (parts3 _ _ _ _ _ _ _ c.in_ok-push_str-2.ensures.bytes (c.in_ok-push_count.ensures ∙ count) c.in_ok-push_str-3.ensures.bytes)
    c.in_ok-push_axis_picture.ensures c.in_ok-push_str-4.ensures.bytes c.in_ok-push_str-5.ensures.bytes
    c.in_ok-push_str-6.ensures.bytes c.in_ok-push_rows.ensures c.in_ok-push_str-7.ensures.bytes)
    c.in_ok-push_str-8.ensures.bytes
