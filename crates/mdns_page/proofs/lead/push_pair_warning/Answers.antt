use Rattle.std.proofs.Common.{◌≡◌, ◌∙◌, ◌++◌, ap, sym, true, List, ℕ}
use Rattle.std.specs.String.{string_bytes}
use Rattle.people_text.specs.Shown.{shown}
use Rattle.mdns_listeners.specs.Warnings.{warns}
use Rattle.mdns_page.specs.{Html.{isolated}, Lead.{pair_warning}}
use Rattle.mdns_page.proofs.PartLemmas.{parts7}
use Rattle.mdns_page.proofs.lead.push_pair_warning.Goals as goal

pub returns : goal.returns
unfolding pair_warning
returns c =
    let warned : warns c.args.pair.now ≡ true = sym c.warns.ensures ∙ c.if-not-warns.false in
    rw warned
    (parts7 _ _ _ _ _ _ _ _ _ _ _ _ _ _ _ c.in_ok-push_str.ensures.bytes
    (c.in_ok-push_shown_word.ensures
    ∙ ap (λ (name : List ℕ). string_bytes c.push_str.new.self ++ isolated (shown name)) c.name_at.ensures)
    c.in_ok-push_str-2.ensures.bytes
    (c.in_ok-push_shown_word-2.ensures
    ∙ ap (λ (name : List ℕ). string_bytes c.push_str-2.new.self ++ isolated (shown name)) c.name_at-2.ensures)
    c.in_ok-push_str-3.ensures.bytes c.in_ok-push_warning_words.ensures c.in_ok-push_str-4.ensures.bytes)
