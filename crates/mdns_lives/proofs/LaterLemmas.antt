-- The flushes that are too early to strike a record at a hearing strike none at a later hearing.
use Rattle.std.proofs.Common.{◌≡◌, ℕ, zero, suc, ◌+◌, ◌-◌, ◌<◌, ◌≤◌, nat_lt, min, List, [], ◌∷◌, length, get_or}
use Rattle.std.proofs.{Common.{take, drop, refl, sym, subst, ◌∙◌, arith, leb-true, leb-false}, lemmas.{Bool.{ltb-true}, List.{take_rest}}}
use Rattle.mdns_capture.specs.{declared.moment.Moment.{Moment}, Limits.{second}}
use Rattle.mdns_join.specs.{Kept.{IsAscending, IsAscendingAbove}, laws.Kept.{IsAscending-from_above}, Nanos.{nanos_of}}
use Rattle.mdns_cache.specs.LentRecords.{AreEarlyUpTo, end_of}
use Rattle.mdns_cache.proofs.FirstLaterLemmas.{first_later}
use Rattle.mdns_lives.specs.{declared.life.RecordHearing.{RecordHearing}, declared.life.Life.{Life}, History.{AreInOrder}}
use Rattle.mdns_lives.specs.LifeWalk.{GiveSameEnds, out_of, life_after, carried_on, lives_from, walked}
use Rattle.mdns_lives.proofs.OrderLemmas.{IsUpTo-itself, no_later}

-- ---- the first flush that is late enough decides

pub end_by_first : (t out : ℕ) (m : Moment) (ms : List Moment) → IsAscendingAbove (t + second) (nanos_of (m ∷ ms))
    → min out (m.nanos + second) ≡ end_of (nanos_of (m ∷ ms)) t out
end_by_first t out m ms a = grind (arith, first_later t out (m ∷ ms) 0 m)

pub end_by_none : (t out : ℕ) (ms : List Moment) → length ms ≡ 0 → out ≡ end_of (nanos_of ms) t out
end_by_none t out [] none = refl
end_by_none t out (m ∷ ms) none = absurd (omega (arith, none))

-- ---- what may be dropped

first_dropped : (low m : ℕ) (ms : List ℕ) → m ≤ low + second → GiveSameEnds low (m ∷ ms) ms
first_dropped low m ms early t out l = grind (arith, nat_lt, ltb-true)

-- the first of the moments that are left is late enough, and those that were dropped change no end
all_dropped : (low : ℕ) (ms : List Moment) (count : ℕ) → IsAscending (nanos_of ms)
    → ((k : ℕ) (d : Moment) → k < count → (get_or ms k d).nanos ≤ low + second)
    → ((d : Moment) → count < length ms → low + second < (get_or ms count d).nanos)
    → IsAscendingAbove (low + second) (nanos_of (drop count ms)) × GiveSameEnds low (nanos_of ms) (nanos_of (drop count ms))
all_dropped low [] zero up early late = (tt, λ t out l. refl)
all_dropped low [] (suc count) up early late = (tt, λ t out l. refl)
all_dropped low (m ∷ ms) zero up early late = ((late m (omega arith), up), λ t out l. refl)
all_dropped low (m ∷ ms) (suc count) up early late =
    let rest = all_dropped low ms count (IsAscending-from_above m.nanos (nanos_of ms) up) (λ k d l. early (suc k) d (omega (arith, l)))
    (λ d l. late d (omega (arith, l))) in
    (rest.0, λ t out l. first_dropped low m.nanos (nanos_of ms) (early 0 m (omega arith)) t out l ∙ rest.1 t out l)

pub early_dropped : (low : ℕ) (ms : List Moment) (count : ℕ) → IsAscending (nanos_of ms) → AreEarlyUpTo low ms count
    → IsAscendingAbove (low + second) (nanos_of (take (length ms - count) (drop count ms)))
    × GiveSameEnds low (nanos_of ms) (nanos_of (take (length ms - count) (drop count ms)))
early_dropped low ms count up point =
    subst (λ (l : List Moment). IsAscendingAbove (low + second) (nanos_of l) × GiveSameEnds low (nanos_of ms) (nanos_of l))
    (sym (take_rest ms count))
    (all_dropped low ms count up (λ k d l. leb-true (get_or ms k d).nanos (low + second) (point.0 k d (omega arith) l))
    (λ d l. leb-false (get_or ms count d).nanos (low + second) (point.1 count d (omega arith) l)))

-- ---- the same ends give the same lives

module _ (fs gs : List ℕ) where
  same_life : (h : RecordHearing) → GiveSameEnds h.moment.nanos fs gs → life_after fs h ≡ life_after gs h
  same_life h same = grind (arith, same h.moment.nanos (out_of h))

  same_after : (p : RecordHearing) (hs : List RecordHearing) (life : Life) → AreInOrder (p ∷ hs) → GiveSameEnds p.moment.nanos fs gs
      → lives_from fs life hs ≡ lives_from gs life hs
  unfolding lives_from
  same_after p [] life o same = refl
  same_after p (h ∷ hs) life o same =
      grind (arith, no_later, same_life, same_after h hs (carried_on life (life_after fs h)) o.1, same_after h hs (life_after fs h) o.1)

  pub same_lives : (h : RecordHearing) (hs : List RecordHearing) (life : Life) → AreInOrder (h ∷ hs) → GiveSameEnds h.moment.nanos fs gs
      → lives_from fs life (h ∷ hs) ≡ lives_from gs life (h ∷ hs)
  same_lives h hs life o same = same_after h (h ∷ hs) life (IsUpTo-itself h, o) same

  pub same_walk : (h : RecordHearing) (hs : List RecordHearing) → AreInOrder (h ∷ hs) → GiveSameEnds h.moment.nanos fs gs
      → walked fs (h ∷ hs) ≡ lives_from gs (life_after gs h) hs
  same_walk h hs o same = grind (arith, same_after, same_life)
