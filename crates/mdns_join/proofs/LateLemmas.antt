-- Moments in no order: those that are kept depend only on which moments there are, however these are sorted or wait.
use Rattle.std.proofs.Common.{rules, ◌≡◌, ℕ, suc, ◌+◌, ◌<◌, ◌≤◌, Bool, true, false, ◌||◌, ◌==◌, List, [], ◌∷◌, ◌++◌}
use Rattle.std.proofs.Common.{refl, sym, ap, ◌∙◌, subst, inl, inr, arith, true≢false, eqb-true}
use Rattle.std.specs.{Ordering.{nat_cmp}, List.{Contains, dedup, dedup_from}, List.Sorted.{IsPermutation, IsSortedByKey, IsNonDecreasingBy}}
use Rattle.std.proofs.lemmas.{Bool.{or_cases, cond_both, eqb-false as unequal}, List.{map-append}, Result.{on_err_weaker, on_ok_weaker}}
use Rattle.std.proofs.lemmas.List.Sorted.{IsPermutation-map, IsPermutation-sym, Contains-permutation, IsNonDecreasingBy-from_sort}
use Rattle.mdns_capture.specs.{declared.moment.Moment.{Moment}, Limits.{second}}
use Rattle.mdns_join.specs.Kept.{has, newest, IsAscending, IsAscendingAbove, IsKept, union, kept, kept_union, IsKeptList}
use Rattle.mdns_join.specs.{Nanos.{nanos_of}, laws.Kept.{has-append, has-kept_iff, has-union, kept_kept, kept-one, kept-same}}
use Rattle.mdns_join.specs.laws.Kept.{kept_union-kept, kept_union-left, struck-kept_iff, IsAscending-from_kept, IsAscending-kept}
use Rattle.mdns_join.proofs.MomentLemmas.{has-get_or, absorbed}

-- ---- moments that wait beside those that are kept

same_has : (xs ys : List ℕ) → ((m : ℕ) → has xs m ≡ has ys m) → kept xs ≡ kept ys
same_has xs ys e = kept-same xs ys (λ m h. sym (e m) ∙ h) (λ m h. e m ∙ h)

or_assoc : (a b c : Bool) → (a || (b || c)) ≡ ((a || b) || c)
or_assoc true b c = refl
or_assoc false b c = refl

or_swap : (a b c : Bool) → ((a || b) || c) ≡ ((a || c) || b)
or_swap true b c = refl
or_swap false true true = refl
or_swap false true false = refl
or_swap false false true = refl
or_swap false false false = refl

has_three : (xs ys zs : List ℕ) (m : ℕ) → has (union (union xs ys) zs) m ≡ ((has xs m || has ys m) || has zs m)
has_three xs ys zs m = has-union (union xs ys) zs m ∙ ap (λ b. b || has zs m) (has-union xs ys m)

-- nothing waits
pub none_waits : (ks : List ℕ) → IsKeptList ks → kept_union ks [] ≡ ks
none_waits ks k = grind (arith, same_has, has-union)

-- one more of those that wait
pub waits_more : (ks ls xs : List ℕ) → kept_union ks (ls ++ xs) ≡ kept_union (kept_union ks ls) xs
waits_more ks ls xs = grind (arith, same_has, has-union, has-append, or_assoc, has_three, kept_union-left)

-- one more of those that are kept
pub keeps_more : (ks ls xs : List ℕ) → kept_union (kept_union ks xs) ls ≡ kept_union (kept_union ks ls) xs
keeps_more ks ls xs = search (rules, kept_union-left, same_has, has_three, or_swap)

-- those that wait were joined into the kept ones, and then more moments
pub none_waits_more : (ks ls xs held kept : List ℕ) (late : List Moment) → held ≡ kept_union ks ls → late ≡ []
    → kept ≡ kept_union held xs → kept_union kept (nanos_of late) ≡ kept_union (kept_union ks ls) xs
none_waits_more ks ls xs held kept late e none f = grind (arith, none_waits, kept_kept)

-- those that wait were joined into the kept ones
pub none_waits_after : (ks ls held kept : List ℕ) (late : List Moment) → held ≡ kept_union ks ls → late ≡ []
    → kept ≡ held → kept_union kept (nanos_of late) ≡ kept_union ks ls
none_waits_after ks ls held kept late e none f = grind (arith, none_waits, kept_kept)

-- moments behind others are joined with them
pub kept_nanos-append : (xs ys : List Moment) → kept (nanos_of (xs ++ ys)) ≡ kept_union (nanos_of xs) (nanos_of ys)
kept_nanos-append xs ys = grind (arith, map-append, same_has, has-append, has-union)

-- ---- the same moments in another order

contains_from_has : (xs : List ℕ) (q : ℕ) → has xs q ≡ true → Contains xs q
contains_from_has [] q h = absurd (true≢false (sym h))
contains_from_has (x ∷ xs) q h =
    elim (or_cases (x == q) (has xs q) h) [
      | inl e ↦ (0, omega arith, eqb-true x q e)
      | inr e ↦ (let c = contains_from_has xs q e in (suc c.0, omega (arith, c.1), c.2))
    ]

has_from_contains : (xs : List ℕ) (q : ℕ) → Contains xs q → has xs q ≡ true
has_from_contains xs q c = sym (ap (has xs) c.2) ∙ has-get_or xs c.0 q c.1

has-permutation : (xs ys : List ℕ) → IsPermutation xs ys → (q : ℕ) → has xs q ≡ true → has ys q ≡ true
has-permutation xs ys p q h = has_from_contains ys q (Contains-permutation xs ys q p (contains_from_has xs q h))

-- ---- sorted, and without repeats

-- each moment is no earlier than the one before it, and all are no earlier than `low`
abbrev RisesFrom : ℕ → List Moment → Type 0
RisesFrom low [] = Unit {0}
RisesFrom low (x ∷ xs) = (low ≤ x.nanos) × RisesFrom x.nanos xs

rises_from : (k : Moment) (xs : List Moment) → IsNonDecreasingBy (λ (m : Moment). m.nanos) (k ∷ xs) → RisesFrom k.nanos xs
rises_from k [] h = tt
rises_from k (x ∷ xs) h = (
  h 0 1 k (omega arith) (omega arith),
  rises_from x xs (λ i j d p q. h (suc i) (suc j) d (omega arith) (omega arith)),
)

module _ (same : Moment → Moment → Bool) (is : (a b : Moment) → same a b ≡ (a.nanos == b.nanos)) where
  equal : (a b : Moment) → same a b ≡ true → a.nanos ≡ b.nanos
  equal a b e = eqb-true a.nanos b.nanos (sym (is a b) ∙ e)

  above : (a b : Moment) → same a b ≡ false → b.nanos ≤ a.nanos → b.nanos < a.nanos
  above a b e l = let n = unequal a.nanos b.nanos (sym (is a b) ∙ e) in omega (arith, l, n)

  ascends_above : (low : ℕ) (k : Moment) (xs : List Moment) → low < k.nanos → RisesFrom k.nanos xs
      → IsAscendingAbove low (nanos_of (dedup_from same k xs))
  ascends_above low k [] l r = (l, tt)
  ascends_above low k (x ∷ xs) l r =
      let P : List Moment → Type 0 = λ ys. IsAscendingAbove low (nanos_of ys) in
      cond_both (same x k) _ _ P (λ e. ascends_above low k xs l (subst (λ n. RisesFrom n xs) (equal x k e) r.1))
      (λ e. (l, ascends_above k.nanos x xs (above x k e r.0) r.1))

  ascends_from : (k : Moment) (xs : List Moment) → RisesFrom k.nanos xs → IsAscending (nanos_of (dedup_from same k xs))
  ascends_from k [] r = tt
  ascends_from k (x ∷ xs) r =
      let P : List Moment → Type 0 = λ ys. IsAscending (nanos_of ys) in
      cond_both (same x k) _ _ P (λ e. ascends_from k xs (subst (λ n. RisesFrom n xs) (equal x k e) r.1))
      (λ e. ascends_above k.nanos x xs (above x k e r.0) r.1)

  ascends : (xs : List Moment) → IsNonDecreasingBy (λ (m : Moment). m.nanos) xs → IsAscending (nanos_of (dedup same xs))
  ascends [] h = tt
  ascends (x ∷ xs) h = ascends_from x xs (rises_from x xs h)

  twice : (b c d : Bool) → c ≡ b → (b || d) ≡ (b || (c || d))
  twice true c d e = refl
  twice false c d e = sym (ap (λ t. t || d) e)

  has-dedup_from : (k : Moment) (xs : List Moment) (q : ℕ) → has (nanos_of (dedup_from same k xs)) q ≡ has (nanos_of (k ∷ xs)) q
  has-dedup_from k [] q = refl
  has-dedup_from k (x ∷ xs) q = grind (arith, cond_both, twice, equal, has-dedup_from k xs q, has-dedup_from x xs q)

  has-dedup : (xs : List Moment) (q : ℕ) → has (nanos_of (dedup same xs)) q ≡ has (nanos_of xs) q
  has-dedup [] q = refl
  has-dedup (x ∷ xs) q = has-dedup_from x xs q

  module _ (items sorted unlike : List Moment) (moved : IsPermutation items sorted)
      (up : IsSortedByKey (λ (m : Moment). m.nanos) nat_cmp sorted) (are : unlike ≡ dedup same sorted) where
    pub sorted_ascend : IsAscending (nanos_of unlike)
    sorted_ascend = subst (λ (xs : List Moment). IsAscending (nanos_of xs)) (sym are)
        (ascends sorted (IsNonDecreasingBy-from_sort (λ (m : Moment). m.nanos) sorted up))

    has-unlike : (q : ℕ) → has (nanos_of unlike) q ≡ has (nanos_of sorted) q
    has-unlike q = ap (λ (xs : List Moment). has (nanos_of xs) q) are ∙ has-dedup sorted q

    nanos_moved : IsPermutation (nanos_of items) (nanos_of sorted)
    nanos_moved = IsPermutation-map (λ (m : Moment). m.nanos) items sorted moved

    -- the same moments are kept as of the unsorted list
    pub sorted_kept : kept (nanos_of unlike) ≡ kept (nanos_of items)
    sorted_kept =
        kept-same (nanos_of unlike) (nanos_of items)
        (λ q h. has-permutation (nanos_of sorted) (nanos_of items)
        (IsPermutation-sym (nanos_of items) (nanos_of sorted) nanos_moved) q (sym (has-unlike q) ∙ h))
        (λ q h. has-unlike q ∙ has-permutation (nanos_of items) (nanos_of sorted) nanos_moved q h)

pub ruleset for_add = (waits_more, none_waits_after, none_waits_more, map-append, on_ok_weaker, on_err_weaker)

pub ruleset one_kept = (kept-one)

-- a kept moment that is a second or more older than the greatest is no earlier than another kept one that is
pub latest_older : (xs : List ℕ) (m n : ℕ) → IsKept xs m → IsKept xs n → m + second ≤ newest xs → n + second ≤ newest xs → n ≤ m
latest_older xs m n one other old also_old = grind arith

pub ruleset for_kept_by_rule = (has-kept_iff, kept_union-kept, latest_older, IsAscending-kept)

pub ruleset for_kept_strikes = (struck-kept_iff)

pub ruleset for_add_many = (kept_nanos-append, absorbed, IsAscending-from_kept)
