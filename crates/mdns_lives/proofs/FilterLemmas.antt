-- Which elements a filter leaves.
use Rattle.std.proofs.Common.{◌≡◌, ◌+◌, Bool, true, List, ◌∷◌, ◌++◌, Contains, take, drop, refl, sym, ap, ◌∙◌, arith}
use Rattle.std.proofs.{Common.{subst}, lemmas.List.{drop_more, take-append-drop}, lemmas.List.Elements.{All-contains, All-contains_itself}}
use Rattle.std.proofs.lemmas.List.Elements.{All-filter, Contains-append_right, filter-append, filter_passes}
use Rattle.std.specs.List.{filter}
use Rattle.mdns_message.specs.declared.hearing.Hearing.{Hearing}
use Rattle.mdns_cache.{specs.Live.{SameHearings}, proofs.StandsPartLemmas.{Contains-head}}

-- an element that is left by a filter is in the list, and passes the test
pub from-filter : {X : Type 0} (p : X → Bool) (xs : List X) (x : X) → Contains (filter p xs) x → Contains xs x × (p x ≡ true)
from-filter p xs x among = (
  All-contains (Contains xs) (filter p xs) x (All-filter p (Contains xs) xs (All-contains_itself xs)) among,
  All-contains (λ y. p y ≡ true) (filter p xs) x (filter_passes p xs) among,
)

-- an element of the list that passes the test is left by the filter
pub to-filter : {X : Type 0} (p : X → Bool) (xs : List X) (x : X) → Contains xs x → p x ≡ true → Contains (filter p xs) x
to-filter {X} p xs x (k, within, is) passes =
    let rest = drop (k + 1) xs in
    let parts : take k xs ++ x ∷ rest ≡ xs =
    ap (λ y. take k xs ++ y ∷ rest) (sym is) ∙ ap (λ ys. take k xs ++ ys) (sym (drop_more xs k x within)) ∙ take-append-drop k xs in
    let kept : filter p (x ∷ rest) ≡ x ∷ filter p rest = rw passes refl in
    let after : Contains (filter p (x ∷ rest)) x = subst (λ (ys : List X). Contains ys x) (sym kept) (Contains-head x (filter p rest)) in
    grind (arith, filter-append p (take k xs) (x ∷ rest), Contains-append_right (filter p (take k xs)) (filter p (x ∷ rest)) x after)

pub filter-same : (p : Hearing → Bool) (gs hs : List Hearing) → SameHearings gs hs → SameHearings (filter p gs) (filter p hs)
filter-same p gs hs same = record {
  into = λ h m. let w = from-filter p gs h m in to-filter p hs h (same.into h w.0) w.1;
  back = λ h m. let w = from-filter p hs h m in to-filter p gs h (same.back h w.0) w.1;
}
