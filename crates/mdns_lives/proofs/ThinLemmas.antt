-- Hearings in order from which those between two of their second are dropped.
use Rattle.std.proofs.Common.{rules, ◌-◌, inl, inr, arith, append_assoc, append-nil, slice_set}
use Rattle.std.proofs.Common.{◌≡◌, ℕ, ◌+◌, ◌<◌, ◌≤◌, List, [], ◌∷◌, ◌++◌, Contains, length, get_or, take, drop, sym, ap, ◌∙◌, subst}
use Rattle.std.specs.List.Sorted.{IsPermutation}
use Rattle.std.proofs.lemmas.List.{drop_all, drop_more, drop-set-lt, take_more, take_more_set}
use Rattle.std.proofs.lemmas.List.Elements.{Contains-append_left, Contains-append_right, Contains-append_cases}
use Rattle.std.proofs.lemmas.List.Sorted.{IsPermutation-sym, Contains-permutation}
use Rattle.mdns_cache.proofs.StandsPartLemmas.{Contains-head, Contains-later, Contains-cases}
use Rattle.mdns_lives.specs.{declared.life.RecordHearing.{RecordHearing}, History.{IsUpTo, AreInOrder}}
use Rattle.mdns_lives.specs.Seconds.{second_of, IsBetween, AreEndsOf, IsThinned}
use Rattle.mdns_lives.proofs.{OrderLemmas.{IsUpTo-onward, no_later, in_order-rest}, SecondsLemmas.{between-itself}}

-- ---- what lies between what is left

pub AreEndsOf-itself : (hs : List RecordHearing) → AreEndsOf hs hs
AreEndsOf-itself hs = record { among = λ h m. m; between = λ h m. between-itself h m }

pub AreEndsOf-moved : (xs ys : List RecordHearing) → IsPermutation xs ys → AreEndsOf xs ys
AreEndsOf-moved xs ys moved = search (rules, Contains-permutation, IsPermutation-sym, between-itself)

-- the ends of ends
pub AreEndsOf-onward : (hs es fs : List RecordHearing) → AreEndsOf hs es → AreEndsOf es fs → AreEndsOf hs fs
AreEndsOf-onward hs es fs a b = record {
  among = λ h m. a.among h (b.among h m);
  between = λ h m.
      let w = a.between h m in
      let l = b.between w.least w.least_there in
      let g = b.between w.greatest w.greatest_there in
      record {
        least = l.least;
        greatest = g.greatest;
        least_there = l.least_there;
        greatest_there = g.greatest_there;
        least_in = l.least_in ∙ w.least_in;
        greatest_in = g.greatest_in ∙ w.greatest_in;
        from_least = IsUpTo-onward l.least w.least h l.from_least w.from_least;
        to_greatest = IsUpTo-onward h w.greatest g.greatest w.to_greatest g.to_greatest;
      };
}

pub thinned-same : (hs es : List RecordHearing) → hs ≡ es → IsThinned hs es
thinned-same hs es same = grind (arith, AreEndsOf-itself)

-- ---- one hearing is dropped

module _ (a b n : RecordHearing) (rest : List RecordHearing) where
  abbrev Whole : List RecordHearing → List RecordHearing
  Whole front = front ++ a ∷ b ∷ n ∷ rest

  abbrev Left : List RecordHearing → List RecordHearing
  Left front = front ++ a ∷ n ∷ rest

  order_left : (front : List RecordHearing) → AreInOrder (Whole front) → AreInOrder (Left front)
  order_left [] o = (IsUpTo-onward a b n o.0 o.1.0, o.1.1)
  order_left (x ∷ []) o = (o.0, order_left [] o.1)
  order_left (x ∷ y ∷ front) o = (o.0, order_left (y ∷ front) o.1)

  pub between_ends : (front : List RecordHearing) → AreInOrder (Whole front) → IsUpTo a b × IsUpTo b n
  between_ends [] o = (o.0, o.1.0)
  between_ends (x ∷ front) o = between_ends front (in_order-rest x (Whole front) o)

  module _ (front : List RecordHearing) (same : second_of a ≡ second_of n) where
    left_behind : (h : RecordHearing) → Contains (a ∷ n ∷ rest) h → Contains (Left front) h
    left_behind h m = Contains-append_right front (a ∷ n ∷ rest) h m

    of_dropped : AreInOrder (Whole front) → IsBetween (Contains (Left front)) b
    of_dropped o =
        let w = between_ends front o in
        let down = no_later a b w.0 in
        let up = no_later b n w.1 in
        record {
          least = a;
          greatest = n;
          least_there = left_behind a (Contains-head a (n ∷ rest));
          greatest_there = left_behind n (Contains-later a (n ∷ rest) n (Contains-head n rest));
          least_in = omega (arith, same, down, up);
          greatest_in = omega (arith, same, down, up);
          from_least = w.0;
          to_greatest = w.1;
        }

    between_left : AreInOrder (Whole front) → (h : RecordHearing) → Contains (Whole front) h → IsBetween (Contains (Left front)) h
    between_left o h m =
        elim (Contains-append_cases front (a ∷ b ∷ n ∷ rest) h m) [
          | inl x ↦ between-itself h (Contains-append_left front (a ∷ n ∷ rest) h x)
          | inr y ↦ elim (Contains-cases a (b ∷ n ∷ rest) h y) [
            | inl e ↦ between-itself h (subst (λ (z : RecordHearing). Contains (Left front) z) e (left_behind a (Contains-head a (n ∷ rest))))
            | inr z ↦ elim (Contains-cases b (n ∷ rest) h z) [
              | inl e ↦ subst (λ (x : RecordHearing). IsBetween (Contains (Left front)) x) e (of_dropped o)
              | inr r ↦ between-itself h (left_behind h (Contains-later a (n ∷ rest) h r))
            ]
          ]
        ]

    among_whole : (h : RecordHearing) → Contains (Left front) h → Contains (Whole front) h
    among_whole h m =
        elim (Contains-append_cases front (a ∷ n ∷ rest) h m) [
          | inl x ↦ Contains-append_left front (a ∷ b ∷ n ∷ rest) h x
          | inr y ↦ Contains-append_right front (a ∷ b ∷ n ∷ rest) h (elim (Contains-cases a (n ∷ rest) h y) [
            | inl e ↦ subst (λ (z : RecordHearing). Contains (a ∷ b ∷ n ∷ rest) z) e (Contains-head a (b ∷ n ∷ rest))
            | inr r ↦ Contains-later a (b ∷ n ∷ rest) h (Contains-later b (n ∷ rest) h r)
          ])
        ]

    pub thinned-dropped : IsThinned (Whole front) (Left front)
    thinned-dropped = grind (arith, order_left, among_whole, between_left)

-- ---- by index

pub drop_next : (xs : List RecordHearing) (i : ℕ) (x : RecordHearing) → i < length xs → x ≡ get_or xs i x → drop i xs ≡ x ∷ drop (i + 1) xs
drop_next xs i x l is = drop_more xs i x l ∙ ap (λ y. y ∷ drop (i + 1) xs) (sym is)

pub take_next : (xs : List RecordHearing) (i : ℕ) (x : RecordHearing) → i < length xs → x ≡ get_or xs i x → take (i + 1) xs ≡ take i xs ++ x ∷ []
take_next xs i x l is = take_more xs i x l ∙ ap (λ y. take i xs ++ y ∷ []) (sym is)

-- the next hearing goes behind those that are kept
pub kept_behind : (xs : List RecordHearing) (kept place : ℕ) (next : RecordHearing) → kept ≤ place → place < length xs
    → next ≡ get_or xs place next
    → IsThinned (take kept xs ++ drop place xs) (take (kept + 1) (slice_set xs kept next) ++ drop (place + 1) (slice_set xs kept next))
kept_behind xs kept place next le l is = grind (arith, take_more_set, drop-set-lt, thinned-same, slice_set, drop_next, append_assoc)

-- the next hearing goes in place of the last one, and is of the second of the one before
pub kept_in_place : (xs : List RecordHearing) (kept place : ℕ) (a next : RecordHearing) → 2 ≤ kept → kept ≤ place → place < length xs
    → a ≡ get_or xs (kept - 2) a → next ≡ get_or xs place next → second_of a ≡ second_of next
    → IsThinned (take kept xs ++ drop place xs)
    (take kept (slice_set xs (kept - 1) next) ++ drop (place + 1) (slice_set xs (kept - 1) next))
kept_in_place xs kept place a next two le l first now same =
    let j = kept - 2 in
    let b = get_or xs (j + 1) a in
    let is : kept ≡ (j + 1) + 1 = omega (arith, two) in
    let at : kept - 1 ≡ j + 1 = omega (arith, two) in
    let one = take_next xs j a (omega (arith, is, le, l)) first in
    let behind = drop (place + 1) xs in
    let whole : take kept xs ++ drop place xs ≡ take j xs ++ a ∷ b ∷ next ∷ behind =
    (λ i. take (is i) xs ++ drop_next xs place next l now i)
    ∙ ap (λ (zs : List RecordHearing). zs ++ next ∷ behind)
    (take_more xs (j + 1) a (omega (arith, is, le, l)) ∙ ap (λ (zs : List RecordHearing). zs ++ b ∷ []) one)
    ∙ append_assoc (take j xs ++ a ∷ []) (b ∷ []) (next ∷ behind)
    ∙ append_assoc (take j xs) (a ∷ []) (b ∷ next ∷ behind) in
    let front : take kept (slice_set xs (kept - 1) next) ≡ (take j xs ++ a ∷ []) ++ next ∷ [] =
    (λ i. take (is i) (slice_set xs (at i) next)) ∙ take_more_set xs (j + 1) next (omega (arith, is, le, l))
    ∙ ap (λ (zs : List RecordHearing). zs ++ next ∷ []) one in
    let rest = drop-set-lt (place + 1) xs (kept - 1) next (omega (arith, two, le)) in
    let left : take kept (slice_set xs (kept - 1) next) ++ drop (place + 1) (slice_set xs (kept - 1) next)
    ≡ take j xs ++ a ∷ next ∷ behind =
    (λ i. front i ++ rest i)
    ∙ append_assoc (take j xs ++ a ∷ []) (next ∷ []) behind
    ∙ append_assoc (take j xs) (a ∷ []) (next ∷ behind) in
    grind (arith, thinned-dropped)

-- the first hearings are all that are left
pub all_kept : (items kept : List RecordHearing) (n place : ℕ) → length items ≤ place → kept ≡ take n items
    → take n items ++ drop place items ≡ kept
all_kept items kept n place over is = grind (arith, drop_all, append-nil)

-- WHAT FUNCTIONS ARE PROVED BY

pub ruleset for_thin = (AreEndsOf-moved, AreEndsOf-onward, all_kept)
