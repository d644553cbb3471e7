use Rattle.std.proofs.Common.{◌∙◌, ◌++◌, ap, List, ℕ}
use Rattle.std.specs.String.{string_bytes}
use Rattle.people_text.specs.Shown.{shown}
use Rattle.mdns_page.specs.{Captures.{clock_text}, Html.{isolated}}
use Rattle.mdns_page.proofs.PartLemmas.{parts7}
use Rattle.mdns_page.proofs.captures.push_clock.Goals as goal

pub returns : goal.returns
unfolding clock_text
returns c =
    parts7 _ _ _ _ _ _ _ _ _ _ _ _ _ _ _ c.in_ok-push_str.ensures.bytes c.in_ok-push_number_among.ensures
    c.in_ok-push_str-2.ensures.bytes
    (c.in_ok-push_shown_word.ensures
    ∙ ap (λ (name : List ℕ). string_bytes c.push_str-2.new.self ++ isolated (shown name)) c.name_at.ensures)
    c.in_ok-push_str-3.ensures.bytes c.in_ok-push_agreement.ensures c.in_ok-push_str-4.ensures.bytes
