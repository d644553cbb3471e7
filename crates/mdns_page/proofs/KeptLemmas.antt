-- Records that a page keeps, in key order.
use Rattle.std.proofs.Common.{◌≡◌, refl, sym, ◌∙◌, ap, ℕ, ◌+◌, ◌<◌, ◌≤◌, Bool, true, false, cond, arith}
use Rattle.std.proofs.Common.{if◌then◌else◌, List, [], ◌∷◌, ◌++◌, append_assoc, get_or, is_some, length, map, option_map}
use Rattle.std.proofs.{Common.{take, Option, None, Some}, lemmas.Bool.{cond_both}}
use Rattle.std.proofs.lemmas.{List.{append-nil, map-append, take_all, take_more}, List.Elements.{filter-append}, Simd.{map-map}}
use Rattle.std.specs.{List.{AllByRecursion, filter}, List.Sorted.{IsStrictlySortedBy}, declared.cmp.Ordering.{Ordering}}
use Rattle.std.specs.declared.cmp.Ordering.TheVariants.{Less}
use Rattle.mdns_message.specs.{declared.hearing.Hearing.{Hearing}, Resource.{key_cmp}}
use Rattle.mdns_join.specs.declared.latest.Latest.{Latest}
use Rattle.mdns_cache.specs.Live.{key_of_last}
use Rattle.mdns_lives.specs.{Chronicle.{AreAllLives}}
use Rattle.mdns_lives.specs.declared.{life.Life.{Life}}
use Rattle.mdns_browse.specs.{declared.about.Subject.{Subject}, Services.{name_if}}
use Rattle.mdns_page.specs.TimelineRecords.{looked_up}
use Rattle.std.proofs.lemmas.Result.{IfOk-weaker}

-- ---- names that a record gives

pub some_mapped : {X Y : Type 0} (f : X → Y) (x : Option X) (y : Option Y) → option_map f x ≡ y → is_some x ≡ is_some y
some_mapped f None y same = ap is_some same
some_mapped f (Some x) y same = ap is_some same

some-if : (b : Bool) (name : List ℕ) → b ≡ is_some (if b then Some name else None)
some-if true name = refl
some-if false name = refl

module _ (test : List ℕ → Bool) (given : Option (List ℕ)) where
  pub named : (name : List ℕ) → Some name ≡ given → test name ≡ is_some (name_if test given)
  named name same = some-if (test name) name ∙ ap (λ g. is_some (name_if test g)) same

  pub unnamed : None ≡ given → false ≡ is_some (name_if test given)
  unnamed same = ap (λ g. is_some (name_if test g)) same

-- ---- one element more

module _ {X : Type 0} (keep : X → Bool) where
  -- of a walk
  pub filtered_next : (all old new walk more : List X) (x : X) → walk ≡ x ∷ more → new ≡ old ++ filter keep (x ∷ [])
      → all ≡ old ++ filter keep walk → all ≡ new ++ filter keep more
  filtered_next all old new walk more x first taken far = grind (arith, filter-append, append_assoc)

module _ {X Y : Type 0} (keep : Y → Bool) (f : X → Y) where
  -- which is kept, or isn't
  pub filtered_taken : (x : X) (old new : List X) → true ≡ keep (f x) → new ≡ old ++ x ∷ []
      → map f new ≡ map f old ++ filter keep (f x ∷ [])
  filtered_taken x old new is pushed =
      ap (map f) pushed ∙ map-append f old (x ∷ []) ∙ ap (λ kept. map f old ++ cond kept (f x ∷ []) []) is

  pub filtered_left : (x : X) (old : List X) → false ≡ keep (f x) → map f old ≡ map f old ++ filter keep (f x ∷ [])
  filtered_left x old isnt = sym (append-nil (map f old)) ∙ ap (λ kept. map f old ++ cond kept (f x ∷ []) []) isnt

  -- of a list
  pub kept_more : (xs : List X) (i : ℕ) (x : X) (kept : List Y) → i < length xs → x ≡ get_or xs i x
      → kept ≡ filter keep (map f (take i xs)) → filter keep (map f (take (i + 1) xs)) ≡ kept ++ filter keep (f x ∷ [])
  kept_more xs i x kept within at are =
      ap (λ (ys : List X). filter keep (map f ys)) (take_more xs i x within)
      ∙ ap (filter keep) (map-append f (take i xs) (get_or xs i x ∷ []))
      ∙ filter-append keep (map f (take i xs)) (f (get_or xs i x) ∷ [])
      ∙ ap (λ (z : X). filter keep (map f (take i xs)) ++ filter keep (f z ∷ [])) (sym at)
      ∙ ap (λ (ys : List Y). ys ++ filter keep (f x ∷ [])) (sym are)

  -- all of them
  pub kept-all : (xs rows : List X) (i : ℕ) (kept : List Y) → length xs ≤ i → xs ≡ rows → kept ≡ filter keep (map f (take i xs))
      → kept ≡ filter keep (map f rows)
  kept-all xs rows i kept enough same are = grind (arith, take_all)

module _ {X Y : Type 0} (f : X → Y) where
  -- the values of one element more of a list, and of all of them
  pub map-more : (xs : List X) (i : ℕ) (x : X) → i < length xs → x ≡ get_or xs i x
      → map f (take (i + 1) xs) ≡ map f (take i xs) ++ f x ∷ []
  map-more xs i x within at =
      ap (map f) (take_more xs i x within) ∙ map-append f (take i xs) (get_or xs i x ∷ [])
      ∙ ap (λ (z : X). map f (take i xs) ++ f z ∷ []) (sym at)

  pub map-whole : (xs rows : List X) (i : ℕ) (values : List Y) → length xs ≤ i → xs ≡ rows → values ≡ map f (take i xs)
      → values ≡ map f rows
  map-whole xs rows i values enough same are = are ∙ ap (map f) (take_all i xs enough ∙ same)

-- ---- order

module _ {X K : Type 0} (c : K → K → Ordering) (key : X → K) (p : X → Bool) where
  above-filter : (P : K → Type 0) (xs : List X) → AllByRecursion P (map key xs) → AllByRecursion P (map key (filter p xs))
  above-filter P [] all = tt
  above-filter P (x ∷ xs) all = grind (arith, cond_both, above-filter P xs all.1)

  -- those that pass stay in order
  pub sorted-filter : (xs : List X) → IsStrictlySortedBy c (map key xs) → IsStrictlySortedBy c (map key (filter p xs))
  unfolding IsStrictlySortedBy
  sorted-filter [] sorted = tt
  sorted-filter (x ∷ xs) sorted =
      let rest = sorted-filter xs sorted.1 in
      cond_both (p x) (x ∷ filter p xs) (filter p xs) (λ ys. IsStrictlySortedBy c (map key ys))
      (λ _. (above-filter (λ k. c (key x) k ≡ Less) xs sorted.0, rest)) (λ _. rest)

-- the rows of a page that may be large
pub few-sorted : (large : Bool) (rows : List (Latest × List Life))
    → IsStrictlySortedBy key_cmp (map (λ (row : Latest × List Life). key_of_last row.0) rows)
    → IsStrictlySortedBy key_cmp (map (λ (row : Latest × List Life). key_of_last row.0) (if large then [] else rows))
unfolding IsStrictlySortedBy
few-sorted true rows sorted = tt
few-sorted false rows sorted = sorted

module _ (heard : List Hearing) (rows : List (Latest × List Life)) (are : AreAllLives heard rows) where
  -- some of the records, and the last hearings that are looked up
  pub some-sorted : (p : Latest × List Life → Bool)
      → IsStrictlySortedBy key_cmp (map (λ (row : Latest × List Life). key_of_last row.0) (filter p rows))
  some-sorted p = sorted-filter key_cmp (λ (row : Latest × List Life). key_of_last row.0) p rows are.ascending

  pub looked_up-sorted : (about : List Subject) → IsStrictlySortedBy key_cmp (map key_of_last (looked_up about rows))
  unfolding IsStrictlySortedBy
  looked_up-sorted [] = tt
  looked_up-sorted (subject ∷ about) = grind (arith, map-map)

-- WHAT FUNCTIONS ARE PROVED BY

pub ruleset for_is_drawn = (named, unnamed, IfOk-weaker)

pub ruleset for_is_kept = (some_mapped, IfOk-weaker)

pub ruleset for_push_kept = (filtered_left, filtered_taken)

pub ruleset for_live_of = (kept-all, kept_more, map-more, map-whole, map-append, map-map)

pub ruleset for_counted_rows = (kept_more)
