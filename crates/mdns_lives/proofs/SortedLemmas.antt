-- Sorted hearings are in order, and sorted moments without repeats are the same moments.
use Rattle.std.proofs.Common.{◌≡◌, ◌↔◌, ℕ, suc, ◌+◌, get_or, Bool, true, false, List, [], ◌∷◌, Contains, sym, subst}
use Rattle.std.proofs.{Common.{arith, true≢false, eqb-true, eq-eqb}, lemmas.List.Kept.{Contains-dedup, Contains-from_dedup}}
use Rattle.std.proofs.lemmas.{List.Sorted.{IsPermutation-sym, Contains-permutation}, Bool.{or_cases, or_left, or_right}}
use Rattle.std.specs.{Ordering.{on, is_lt}, Cmp.{IsEquivalence, on_equiv, nat_eq_equiv}, List.{dedup}}
use Rattle.std.specs.{List.Sorted.{IsPermutation, IsSorted}, Prelude.{nat_eq}}
use Rattle.mdns_join.specs.{laws.Latest.{moment-same}, Nanos.{nanos_of}, Kept.{has}}
use Rattle.mdns_capture.specs.declared.moment.Moment.{Moment}
use Rattle.mdns_lives.specs.{declared.life.RecordHearing.{RecordHearing}, History.{AreInOrder}, Seconds.{heard_cmp}}
use Rattle.mdns_lives.proofs.OrderLemmas.{IsUpTo-from_lt}
use Rattle.mdns_cache.proofs.StandsPartLemmas.{Contains-nil, Contains-head, Contains-later, Contains-cases, Contains-map, from_map}

-- ---- hearings

pub AreInOrder_from_sorted : (hs : List RecordHearing) → IsSorted heard_cmp hs → AreInOrder hs
AreInOrder_from_sorted [] up = tt
AreInOrder_from_sorted (h ∷ []) up = tt
AreInOrder_from_sorted (h ∷ g ∷ hs) up = (
  IsUpTo-from_lt h g (up 0 h (omega arith) (omega arith)),
  AreInOrder_from_sorted (g ∷ hs) (λ k d l m.
      let next : suc k + 1 ≡ suc (k + 1) = omega arith in
      subst (λ n. is_lt (heard_cmp (get_or (h ∷ g ∷ hs) n d) (get_or (g ∷ hs) k d)) ≡ false) next
      (up (suc k) d (omega arith) (omega (arith, m)))),
)

-- ---- moments

pub contains-has : (xs : List ℕ) (q : ℕ) → Contains xs q ↔ (has xs q ≡ true)
contains-has [] q = (λ m. absurd (Contains-nil q m), λ h. absurd (true≢false (sym h)))
contains-has (x ∷ xs) q =
    grind (arith, Contains-cases, or_left, eq-eqb, or_right, or_cases, eqb-true, Contains-head, Contains-later, contains-has xs q)

-- the same moments, as numbers
nanos_within : (xs ys : List Moment) → ((m : Moment) → Contains xs m → Contains ys m)
    → (q : ℕ) → Contains (nanos_of xs) q → Contains (nanos_of ys) q
nanos_within xs ys into q c =
    let w = from_map (λ (m : Moment). m.nanos) xs q c in
    subst (λ n. Contains (nanos_of ys) n) w.1 (Contains-map (λ (m : Moment). m.nanos) ys w.0 (into w.0 w.2))

module _ (same : Moment → Moment → Bool) (is : IsEquivalence same) (exact : (a b : Moment) → same a b ≡ true → a ≡ b)
    (items sorted unlike : List Moment) (moved : IsPermutation items sorted) (are : unlike ≡ dedup same sorted) where
  into_unlike : (m : Moment) → Contains items m → Contains unlike m
  into_unlike m c = grind (arith, Contains-dedup is exact sorted m (Contains-permutation items sorted m moved c))

  from_unlike : (m : Moment) → Contains unlike m → Contains items m
  from_unlike m c = Contains-permutation sorted items m (IsPermutation-sym items sorted moved)
      (Contains-from_dedup same sorted m (subst (λ (xs : List Moment). Contains xs m) are c))

  -- the same moments are there
  pub unlike-has : (q : ℕ) → (has (nanos_of unlike) q ≡ true) ↔ (has (nanos_of items) q ≡ true)
  unlike-has q = (
    λ h. (contains-has (nanos_of items) q).0 (nanos_within unlike items from_unlike q ((contains-has (nanos_of unlike) q).1 h)),
    λ h. (contains-has (nanos_of unlike) q).0 (nanos_within items unlike into_unlike q ((contains-has (nanos_of items) q).1 h)),
  )

pub same_nanos : (a b : Moment) → on (λ (m : Moment). m.nanos) nat_eq a b ≡ true → a ≡ b
same_nanos a b e = moment-same a b (eqb-true a.nanos b.nanos e)

pub nanos-equiv : IsEquivalence (on (λ (m : Moment). m.nanos) nat_eq)
nanos-equiv = on_equiv (λ (m : Moment). m.nanos) nat_eq_equiv

-- WHAT FUNCTIONS ARE PROVED BY

pub ruleset for_thin = (AreInOrder_from_sorted)
