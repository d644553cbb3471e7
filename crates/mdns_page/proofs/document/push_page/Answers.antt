use Rattle.std.proofs.Common.{◌≡◌, ◌∙◌, ◌++◌, Bool, ℕ, ap, if◌then◌else◌, length, nat_lt, sym, codes}
use Rattle.std.proofs.lemmas.List.{length-map}
use Rattle.std.specs.String.{string_bytes}
use Rattle.mdns_page.specs.{Captures.{captures_text, facts_lent}, Html.{isolated}, Document.{head, lead, parts_lent}}
use Rattle.mdns_page.specs.Timeline.{counted_lent, is_large, timeline}
use Rattle.mdns_page.proofs.PartLemmas.{parts8}
use Rattle.mdns_page.proofs.document.push_page.Goals as goal

pub returns : goal.returns
returns c =
    let parts = c.args.parts.now in
    let shown = parts_lent parts in
    let axis = parts.axis in
    let lanes_for = λ (large : Bool) (captures : ℕ). if large then 0 else (if nat_lt 4 captures then 1 else captures) in
    let lanes = lanes_for (is_large (length shown.rows)) (length shown.captures) in
    let is : c.lanes_for-lanes.result ≡ lanes =
    c.lanes_for-lanes.ensures ∙ ap (λ (large : Bool). lanes_for large (length parts.captures.now)) c.is_large.ensures
    ∙ ap (λ (n : ℕ). lanes_for (is_large n) (length parts.captures.now)) (sym (length-map parts.rows.now counted_lent))
    ∙ ap (λ (n : ℕ). lanes_for (is_large (length shown.rows)) n) (sym (length-map parts.captures.now facts_lent)) in
    parts8 (string_bytes c.args.to.now) (head axis lanes shown.captures) (lead isolated shown) _ (captures_text isolated axis shown.captures shown.comparison)
    (timeline isolated axis lanes shown.rows shown.addresses shown.names) shown.live shown.skipped (codes "</main></body></html>\n") _ _ _ _ _ _ _ _
    (c.in_ok-push_head.ensures ∙ ap (λ (n : ℕ). string_bytes c.args.to.now ++ head axis n shown.captures) is)
    c.in_ok-push_lead.ensures c.in_ok-push_str.ensures.bytes c.in_ok-push_captures.ensures
    (c.in_ok-push_timeline.ensures
    ∙ ap (λ (n : ℕ). string_bytes c.push_captures.new.to ++ timeline isolated axis n shown.rows shown.addresses shown.names) is)
    c.in_ok-push_str-2.ensures.bytes c.in_ok-push_str-3.ensures.bytes c.in_ok-push_str-4.ensures.bytes
