use Rattle.std.proofs.{Common.{◌≡◌, ◌∙◌, ap, length, rules, subst, sym}, lemmas.List.{take_at}}
use Rattle.std.specs.{List.{All}, List.Sorted.{IsPermutation}}
use Rattle.mdns_listeners.specs.{HeardMessage.{AreHeardIn, HasWholeAddress}, KeptMessage.{ArePlaced, HeardSoFar, kept_messages, told_by}}
use Rattle.mdns_listeners.proofs.{HeardLemmas.{heard-whole}, KeptLemmas.{placed-permuted, told-whole}}
use Rattle.mdns_listeners.proofs.heard_messages.HeardMessages.finish.Goals as goal

pub rows_of-requires-clause-placed : goal.rows_of-requires-clause-placed
rows_of-requires-clause-placed c =
    let kept = c.self.inside.kept.items in
    let sorted = c.sort.new.kept in
    let long : length sorted ≡ c.self.inside.kept.len = search rules in
    let moved = subst (λ ks. IsPermutation ks sorted) c.as_mut_slice.ensures.value c.sort.ensures.permutation in (
      kept_messages kept,
      subst (ArePlaced (kept_messages kept)) (sym (take_at sorted _ c.self.inside.kept.len long))
          (placed-permuted kept sorted c.self.inside.times.items c.self.inside.names c.self.invariant moved),
    )

pub returns-clause-heard : goal.returns-clause-heard
returns-clause-heard c =
    let kept = c.self.inside.kept.items in
    let sorted = c.sort.new.kept in
    let long : length sorted ≡ c.self.inside.kept.len = search rules in
    let moved = subst (λ ks. IsPermutation ks sorted) c.as_mut_slice.ensures.value c.sort.ensures.permutation in
    let placed = subst (ArePlaced (kept_messages kept)) (sym (take_at sorted _ c.self.inside.kept.len long))
    (placed-permuted kept sorted c.self.inside.times.items c.self.inside.names c.self.invariant moved) in
    subst (λ all. AreHeardIn all c.in_ok-rows.rows.items)
    (ap (told_by (kept_messages kept)) c.as_slice.ensures.value ∙ ap (λ (s : HeardSoFar). s.told) c.self.view_is)
    (c.in_ok-rows.ensures (kept_messages kept) placed)

pub returns-clause-addresses : goal.returns-clause-addresses
returns-clause-addresses c =
    heard-whole _ c.in_ok-rows.rows.items (returns-clause-heard c)
    (subst (All (λ told. HasWholeAddress told.message)) (ap (λ (s : HeardSoFar). s.told) c.self.view_is)
    (told-whole c.self.inside.kept.items c.self.inside.times.items c.self.inside.names c.self.invariant))
