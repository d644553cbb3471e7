use Rattle.std.proofs.Common.{◌∙◌, ◌++◌, ℕ, ap}
use Rattle.std.specs.String.{string_bytes}
use Rattle.people_text.specs.MomentText.{millis_text}
use Rattle.mdns_page.specs.Captures.{recorded_bar}
use Rattle.mdns_page.proofs.PartLemmas.{parts6}
use Rattle.mdns_page.proofs.captures.push_recorded_bar.Goals as goal

pub returns : goal.returns
unfolding recorded_bar
returns c =
    parts6 _ _ _ _ _ _ _ _ _ _ _ _ _ c.in_ok-push_stroke.ensures c.in_ok-push_str.ensures.bytes
    (c.in_ok-push_millis.ensures ∙ ap (λ (n : ℕ). string_bytes c.push_str.new.self ++ millis_text n) c.nanos.ensures)
    c.in_ok-push_str-2.ensures.bytes
    (c.in_ok-push_millis-2.ensures ∙ ap (λ (n : ℕ). string_bytes c.push_str-2.new.self ++ millis_text n) c.nanos-2.ensures)
    c.in_ok-push_str-3.ensures.bytes
