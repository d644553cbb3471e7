use Rattle.std.proofs.Common.{◌+◌, ◌++◌, ◌∷◌, List, [], ℕ, arith, map, subst, sym}
use Rattle.std.proofs.lemmas.List.FromFn.{map-range_with_len_more}
use Rattle.std.specs.List.{range_with_len}
use Rattle.mdns_message.specs.declared.hearing.Hearing.{Hearing}
use Rattle.mdns_lives.specs.Chronicle.{Accounts, Chronicles}
use Rattle.mdns_browse.specs.Services.{AreEach}
use Rattle.mdns_page.proofs.CountedLemmas.{each-more}
use Rattle.mdns_page.proofs.listener_lives.unheard.Goals as goal

pub loop-listener-preserved : goal.loop-listener-preserved
loop-listener-preserved c =
    let i = c.loop-listener.listener in
    let was = c.loop-listener.captures.items in
    let lives = c.in_ok-no_lives.field-0 in
    let none : ℕ → List Hearing = λ (listener : ℕ). [] in
    subst (λ (captures : List Accounts). AreEach Chronicles captures (map none (range_with_len 0 (i + 1)))) (sym c.in_ok-push.ensures.items)
    (subst (AreEach Chronicles (was ++ lives ∷ [])) (sym (map-range_with_len_more none 0 i i (omega arith)))
    (each-more Chronicles was (map none (range_with_len 0 i)) lives [] c.loop-listener.invariant c.in_ok-no_lives.ensures))
