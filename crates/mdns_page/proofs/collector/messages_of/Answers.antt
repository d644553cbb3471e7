use Rattle.std.proofs.Common.{◌≡◌, ◌∙◌, true, List, [], ℕ, ap, length, rules, string_bytes, subst, sym}
use Rattle.std.proofs.lemmas.List.{length-map}
use Rattle.mdns_listeners.specs.{Listeners.{Gathered}, Together.{are_compared}}
use Rattle.mdns_page.proofs.collector.messages_of.Goals as goal

pub returns : goal.returns
returns c = (
  subst (λ (n : ℕ). are_compared n ≡ true) (sym (length-map c.names.result.now string_bytes) ∙ ap length c.names.ensures) (search rules),
  subst (λ (of : List ℕ). Gathered of c.in_ok-messages.messages [] []) c.by_file.ensures.by_file c.in_ok-messages.ensures,
)
