-- Of ascending flush moments the first that came late enough to strike decides when a record ends.
use Rattle.std.proofs.Common.{◌≡◌, ℕ, zero, suc, ◌+◌, ◌<◌, ◌≤◌, true, false, nat_lt, min, List, [], ◌∷◌, length}
use Rattle.std.proofs.{Common.{get_or, refl, arith, if◌then◌else◌, leb-true, le-leb}, lemmas.Bool.{ltb-true, ltb-false}}
use Rattle.std.specs.{Prelude.{nat_le}, List.Sorted.{IsPartitionedBy}}
use Rattle.mdns_capture.specs.{declared.moment.Moment.{Moment}, Limits.{second}}
use Rattle.mdns_join.specs.{Nanos.{nanos_of}, Kept.{IsAscending, IsAscendingAbove}, laws.Kept.{IsAscending-from_above}}
use Rattle.mdns_cache.specs.LentRecords.{end_of}
use Rattle.mdns_cache.proofs.EndLemmas.{end-by_life}

-- each moment of a list that ascends above `low` is above `low`
above_at : (low : ℕ) (moments : List Moment) (j : ℕ) (d : Moment) → IsAscendingAbove low (nanos_of moments) → j < length moments
    → low < (get_or moments j d).nanos
above_at low [] j d a l = absurd (omega arith)
above_at low (x ∷ xs) zero d a l = a.0
above_at low (x ∷ xs) (suc j) d a l = grind (arith, above_at x.nanos xs j d a.1 (omega arith))

-- no later moment is earlier than one before it
rising : (moments : List Moment) (i j : ℕ) (d : Moment) → IsAscending (nanos_of moments) → i ≤ j → j < length moments
    → (get_or moments i d).nanos ≤ (get_or moments j d).nanos
rising [] i j d a h l = absurd (omega arith)
rising (x ∷ xs) zero zero d a h l = omega arith
rising (x ∷ xs) zero (suc j) d a h l = let later = above_at x.nanos xs j d a (omega arith) in omega (arith, later)
rising (x ∷ xs) (suc i) zero d a h l = absurd (omega arith)
rising (x ∷ xs) (suc i) (suc j) d a h l =
    rising xs i j d (IsAscending-from_above x.nanos (nanos_of xs) a) (omega arith) (omega arith)

-- the moments that are too early come first
pub early_first : (t : ℕ) (moments : List Moment) → IsAscending (nanos_of moments)
    → IsPartitionedBy (λ (m : Moment). nat_le m.nanos (t + second)) moments
early_first t moments a i j d h l k = grind (arith, le-leb, rising, leb-true)

-- moments that are all too early end nothing
pub none_later : (t out : ℕ) (moments : List Moment)
    → ((k : ℕ) (d : Moment) → k < length moments → (get_or moments k d).nanos ≤ t + second)
    → end_of (nanos_of moments) t out ≡ out
none_later t out [] early = refl
none_later t out (x ∷ xs) early =
    let rest = none_later t out xs (λ k d l. early (suc k) d (omega (arith, l))) in
    let here : x.nanos ≤ t + second = early 0 x (omega arith) in
    elim (nat_lt (t + second) x.nanos) as (λ b. nat_lt (t + second) x.nanos ≡ b
    → (if b then min (x.nanos + second) (end_of (nanos_of xs) t out) else end_of (nanos_of xs) t out) ≡ out) [
      | true ↦ λ e. let late : t + second < x.nanos = ltb-true (t + second) x.nanos e in absurd (omega (arith, late, here))
      | false ↦ λ e. rest
    ] refl

-- no moment after one that is late enough gives an earlier end than that one
no_earlier : (low : ℕ) (moments : List Moment) (t out : ℕ) → IsAscendingAbove low (nanos_of moments)
    → t + second < low → min out (low + second) ≤ end_of (nanos_of moments) t out
no_earlier low [] t out a l = omega arith
no_earlier low (x ∷ xs) t out a l =
    let up : low < x.nanos = a.0 in
    let rest = no_earlier x.nanos xs t out a.1 (omega (arith, up, l)) in
    elim (nat_lt (t + second) x.nanos) as (λ b.
    min out (low + second) ≤ (if b then min (x.nanos + second) (end_of (nanos_of xs) t out) else end_of
    (nanos_of xs) t out)) [
      | true ↦ omega (arith, up, rest)
      | false ↦ omega (arith, up, rest)
    ]

-- the first that is late enough decides
pub first_later : (t out : ℕ) (moments : List Moment) (i : ℕ) (d : Moment) → IsAscending (nanos_of moments) → i < length moments
    → ((k : ℕ) (x : Moment) → k < i → (get_or moments k x).nanos ≤ t + second) → t + second < (get_or moments i d).nanos
    → end_of (nanos_of moments) t out ≡ min out ((get_or moments i d).nanos + second)
first_later t out [] i d a l early late = absurd (omega (arith, l))
first_later t out (x ∷ xs) zero d a l early late = grind (arith, no_earlier, end-by_life, nat_lt, ltb-false)
first_later t out (x ∷ xs) (suc i) d a l early late =
    let rest = first_later t out xs i d (IsAscending-from_above x.nanos (nanos_of xs) a) (omega (arith, l))
    (λ k y m. early (suc k) y (omega (arith, m))) late in
    let here : x.nanos ≤ t + second = early 0 x (omega arith) in
    elim (nat_lt (t + second) x.nanos) as (λ b. nat_lt (t + second) x.nanos ≡ b
    → (if b then min (x.nanos + second) (end_of (nanos_of xs) t out) else end_of (nanos_of xs) t out) ≡ min out
    ((get_or xs i d).nanos + second)) [
      | true ↦ λ e. let up : t + second < x.nanos = ltb-true (t + second) x.nanos e in absurd (omega (arith, up, here))
      | false ↦ λ e. rest
    ] refl
