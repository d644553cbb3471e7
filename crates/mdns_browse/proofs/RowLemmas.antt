-- Rows in key order are decided by which rows there are, and so is what is a function of them.
use Rattle.std.proofs.{Common.{◌≡◌, refl, sym, ◌∙◌, ap, subst, ℕ, inl, inr, List, [], ◌∷◌, map}, lemmas.Simd.{map-map}}
use Rattle.std.specs.{Prelude.{Contains}, List.{AllByRecursion}, List.Sorted.{IsStrictlySortedBy}, Cmp.{IsTotalOrder}}
use Rattle.std.specs.{declared.cmp.Ordering.{Ordering}, declared.cmp.Ordering.TheVariants.{Less}}
use Rattle.mdns_message.specs.{declared.hearing.Hearing.{Hearing}, declared.key.Key.{Key}, Resource.{key_cmp}}
use Rattle.mdns_message.specs.laws.Resource.{key_cmp-total}
use Rattle.mdns_join.specs.declared.latest.Latest.{Latest}
use Rattle.mdns_cache.specs.Live.{key_of_last, AreLiveRecords, IsEnd, IsLive, SameHearings}
use Rattle.mdns_cache.proofs.EndLemmas.{end_among}
use Rattle.mdns_cache.proofs.StandsPartLemmas.{Contains-cases, Contains-head, Contains-later, Contains-nil, IsLast-among, same-back}
use Rattle.mdns_browse.specs.Services.{AreAscending, IsOfLive, lasts_in}
use Rattle.std.proofs.Common.{rules, arith}

holds_at : {X K : Type 0} (P : K → Type 0) (key : X → K) (xs : List X) (z : X) → Contains xs z → AllByRecursion P (map key xs) → P (key z)
holds_at P key [] z among all = absurd (Contains-nil z among)
holds_at P key (x ∷ xs) z among all = elim (Contains-cases x xs z among) [
  | inl is ↦ subst (λ v. P (key v)) is all.0
  | inr rest ↦ holds_at P key xs z rest all.1
]

-- nothing is below itself, nor two things each below the other
not_below_both : {K : Type 0} (cmp : K → K → Ordering) (o : IsTotalOrder cmp) (a b : K) → cmp a b ≡ Less → cmp b a ≡ Less → ⊥
not_below_both cmp o a b ab ba = grind arith

-- two lists in strictly ascending order of their keys with the same elements are equal
pub same_rows : {X K : Type 0} (cmp : K → K → Ordering) (o : IsTotalOrder cmp) (key : X → K) (xs ys : List X)
    → IsStrictlySortedBy cmp (map key xs) → IsStrictlySortedBy cmp (map key ys)
    → ((z : X) → Contains xs z → Contains ys z) → ((z : X) → Contains ys z → Contains xs z) → xs ≡ ys
unfolding IsStrictlySortedBy
same_rows cmp o key [] [] sx sy into back = refl
same_rows cmp o key [] (y ∷ ys) sx sy into back = absurd (Contains-nil y (back y (Contains-head y ys)))
same_rows cmp o key (x ∷ xs) [] sx sy into back = absurd (Contains-nil x (into x (Contains-head x xs)))
same_rows {X} cmp o key (x ∷ xs) (y ∷ ys) sx sy into back =
    ap (λ first. first ∷ xs) same ∙ ap (λ rest. y ∷ rest) (same_rows cmp o key xs ys sx.1 sy.1 into_rest back_rest)
  where
    below_x : (z : X) → Contains xs z → cmp (key x) (key z) ≡ Less
    below_x z among = holds_at (λ k. cmp (key x) k ≡ Less) key xs z among sx.0

    below_y : (z : X) → Contains ys z → cmp (key y) (key z) ≡ Less
    below_y z among = holds_at (λ k. cmp (key y) k ≡ Less) key ys z among sy.0

    same : x ≡ y
    same = elim (Contains-cases y ys x (into x (Contains-head x xs))) [
      | inl is ↦ sym is
      | inr x_after ↦ elim (Contains-cases x xs y (back y (Contains-head y ys))) [
        | inl is ↦ is
        | inr y_after ↦ absurd (not_below_both cmp o (key x) (key y) (below_x y y_after) (below_y x x_after))
      ]
    ]

    into_rest : (z : X) → Contains xs z → Contains ys z
    into_rest z among = elim (Contains-cases y ys z (into z (Contains-later x xs z among))) [
      | inl is ↦ let own : cmp (key x) (key x) ≡ Less = subst (λ v. cmp (key x) (key v) ≡ Less) (sym (same ∙ is)) (below_x z among) in
          absurd (not_below_both cmp o (key x) (key x) own own)
      | inr after ↦ after
    ]

    back_rest : (z : X) → Contains ys z → Contains xs z
    back_rest z among = elim (Contains-cases x xs z (back z (Contains-later y ys z among))) [
      | inl is ↦ let own : cmp (key y) (key y) ≡ Less = subst (λ v. cmp (key y) (key v) ≡ Less) (sym (sym same ∙ is)) (below_y z among) in
          absurd (not_below_both cmp o (key y) (key y) own own)
      | inr after ↦ after
    ]

-- ---- the live records

-- a record that is live among some hearings is live among the same ones
live_among : (heard others : List Hearing) (now : ℕ) (key : Key) (l : Latest) → SameHearings heard others
    → IsLive heard now key l → IsLive others now key l
live_among heard others now key l same live = record {
  last = IsLast-among heard others same key l live.last;
  running = live.running;
  unstruck = λ struck. live.unstruck record {
    flush = struck.flush;
    strikes = record {
      among = same.back struck.flush struck.strikes.among;
      of_set = struck.strikes.of_set;
      later = struck.strikes.later;
    };
    old = struck.old;
  };
}

row_among : (heard others : List Hearing) (now : ℕ) (l : Latest) (end : ℕ) → SameHearings heard others
    → IsLive heard now (key_of_last l) l × IsEnd heard (key_of_last l) end → IsLive others now (key_of_last l) l × IsEnd others (key_of_last l) end
row_among heard others now l end same own = search (rules, live_among, end_among)

shared_records : (heard others : List Hearing) (now : ℕ) (rows : List (Latest × ℕ)) → SameHearings heard others
    → AreLiveRecords heard now rows → AreLiveRecords others now rows
shared_records heard others now rows same are = record {
  ascending = are.ascending;
  exactly = λ l end. (
    λ among. row_among heard others now l end same ((are.exactly l end).0 among),
    λ own. (are.exactly l end).1 (row_among others heard now l end (same-back heard others same) own),
  );
}

pub one_records : (heard : List Hearing) (now : ℕ) (rows other_rows : List (Latest × ℕ))
    → AreLiveRecords heard now rows → AreLiveRecords heard now other_rows → rows ≡ other_rows
one_records heard now rows other_rows are others_are =
    same_rows key_cmp key_cmp-total (λ (row : Latest × ℕ). key_of_last row.0) rows other_rows are.ascending others_are.ascending
    (λ row among. (others_are.exactly row.0 row.1).1 ((are.exactly row.0 row.1).0 among))
    (λ row among. (are.exactly row.0 row.1).1 ((others_are.exactly row.0 row.1).0 among))

-- the last hearings of live records are each of another record, in key order
pub ascending_lasts : (heard : List Hearing) (now : ℕ) (rows : List (Latest × ℕ)) → AreLiveRecords heard now rows
    → AreAscending (lasts_in rows)
ascending_lasts heard now rows are = grind (arith, map-map)

-- ---- whatever is a function of the live records

module _ {X : Type 0} (value_in : List (Latest × ℕ) → X) (heard others : List Hearing) (now : ℕ) (same : SameHearings heard others) where
  pub shared_value : (x : X) → IsOfLive value_in heard now x → IsOfLive value_in others now x
  shared_value x is = record { rows = is.rows; are = shared_records heard others now is.rows same is.are; is = is.is }

  pub one_value : (x y : X) → IsOfLive value_in heard now x → IsOfLive value_in others now y → x ≡ y
  one_value x y one two =
      one.is ∙ ap value_in (one_records others now one.rows two.rows (shared_records heard others now one.rows same one.are) two.are)
      ∙ sym two.is

-- a value of the same rows
pub like_value : {X : Type 0} {value_in other_in : List (Latest × ℕ) → X} (heard : List Hearing) (now : ℕ) (x : X)
    → ((rows : List (Latest × ℕ)) → value_in rows ≡ other_in rows) → IsOfLive value_in heard now x → IsOfLive other_in heard now x
like_value heard now x like is = record { rows = is.rows; are = is.are; is = is.is ∙ like is.rows }
