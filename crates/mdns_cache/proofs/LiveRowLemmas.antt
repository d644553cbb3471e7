-- The rows of the live records.
use Rattle.std.proofs.lemmas.{Grind.{common_steps}, Bool.{ltb-true, lt-ltb}, Cmp.{eq_by_cmp_equiv}}
use Rattle.std.proofs.lemmas.{Map.Views.{Contains-from_lookup, lookup-from_Contains}, Map.Keys.{IsDistinct-from_sorted}, List.{map-append}}
use Rattle.std.proofs.lemmas.Simd.{map-map}
use Rattle.std.proofs.Common.{arith, ◌≡◌, ℕ, Bool, true, false, nat_lt, List, [], ◌∷◌, ◌++◌, append_assoc, append-nil, map}
use Rattle.std.proofs.Common.{Option, None, Some, Contains, MatchOption, refl, sym, ap, ◌∙◌, subst, inl, inr, if◌then◌else◌}
use Rattle.std.specs.{declared.cmp.Ordering.TheVariants.{Less}, List.{AllByRecursion}, List.Sorted.{IsStrictlySortedBy}, Map.{keys_of}}
use Rattle.mdns_message.specs.{declared.hearing.Hearing.{Hearing}, declared.key.Key.{Key}, RecordSet.{RecordSet}, Resource.{key_cmp}}
use Rattle.mdns_message.specs.laws.Resource.{key_cmp-total}
use Rattle.mdns_join.specs.declared.latest.Latest.{Latest}
use Rattle.mdns_cache.specs.Live.{IsUnheard, IsLast, IsLive, key_of_last, AreLiveRows, IsEnd, AreLiveRecords}
use Rattle.mdns_cache.specs.{LentRecords.{end_held, live_of}, Contents.{Contents, last_at, StandsFor}}
use Rattle.mdns_cache.proofs.StandsPartLemmas.{Contains-nil, Contains-head, Contains-later, Contains-cases, same-itself, IsLast-same}
use Rattle.mdns_cache.proofs.{EndLemmas.{some_end, same_end}, MeaningLemmas.{IsAsked, IsLast-held, key_eq-exact, living-held, end-held}}

module _ (flushes : List (RecordSet × List ℕ)) (now : ℕ) where
  abbrev lives : Key × Latest → Bool
  lives e = nat_lt now (end_held flushes e)

  abbrev row : Key × Latest → Latest × ℕ
  row e = (e.1, end_held flushes e)

  row_of_entry : (es : List (Key × Latest)) (e : Key × Latest) → Contains es e → lives e ≡ true → Contains (live_of flushes now es) (row e)
  row_of_entry [] e m t = absurd (Contains-nil e m)
  row_of_entry (d ∷ es) e m t =
      elim (Contains-cases d es e m) [
        | inl same ↦ subst (λ (p : Key × Latest). Contains (live_of flushes now (d ∷ es)) (row p)) same
            (here (subst (λ (p : Key × Latest). lives p ≡ true) (sym same) t))
        | inr rest ↦ there (row_of_entry es e rest t)
      ]
    where
      here : lives d ≡ true → Contains (live_of flushes now (d ∷ es)) (row d)
      here t = subst (λ (b : Bool). Contains (if b then row d ∷ live_of flushes now es else live_of flushes now es)
          (row d)) (sym t) (Contains-head (row d) (live_of flushes now es))

      there : Contains (live_of flushes now es) (row e) → Contains (live_of flushes now (d ∷ es)) (row e)
      there c = elim (lives d) as (λ b.
          Contains (if b then row d ∷ live_of flushes now es else live_of flushes now es) (row e))
          [ true ↦ Contains-later (row d) (live_of flushes now es) (row e) c | false ↦ c ]

  entry_of_row : (es : List (Key × Latest)) (r : Latest × ℕ) → Contains (live_of flushes now es) r
      → (e : Key × Latest) × (Contains es e) × (lives e ≡ true) × (row e ≡ r)
  entry_of_row [] r m = absurd (Contains-nil r m)
  entry_of_row (d ∷ es) r m =
      elim (lives d) as (λ b. lives d ≡ b
      → Contains (if b then row d ∷ live_of flushes now es else live_of flushes now es) r
      → (e : Key × Latest) × (Contains (d ∷ es) e) × (lives e ≡ true) × (row e ≡ r)) [
        | true ↦ λ t c. elim (Contains-cases (row d) (live_of flushes now es) r c) [
          | inl same ↦ (d, Contains-head d es, t, same)
          | inr rest ↦ later (entry_of_row es r rest)
        ]
        | false ↦ λ t c. later (entry_of_row es r c)
      ] refl m
    where
      later : (e : Key × Latest) × (Contains es e) × (lives e ≡ true) × (row e ≡ r)
          → (e : Key × Latest) × (Contains (d ∷ es) e) × (lives e ≡ true) × (row e ≡ r)
      later w = (w.0, Contains-later d es w.0 w.1, w.2, w.3)

  -- each entry is under the key of its record
  abbrev AreOwn : List (Key × Latest) → Type 0
  AreOwn es = (k : Key) (x : Latest) → Contains es (k, x) → key_of_last x ≡ k

  -- the records of the rows
  abbrev records : List (Latest × ℕ) → List Key
  records rows = map (λ (r : Latest × ℕ). key_of_last r.0) rows

  rows_above : (key : Key) (es : List (Key × Latest)) → AreOwn es
      → AllByRecursion (λ k. key_cmp key k ≡ Less) (keys_of es)
      → AllByRecursion (λ k. key_cmp key k ≡ Less) (records (live_of flushes now es))
  rows_above key [] own a = tt
  rows_above key (e ∷ es) own a =
      let rest = rows_above key es (λ k x m. own k x (Contains-later e es (k, x) m)) a.1 in
      elim (lives e) as (λ b. AllByRecursion (λ k. key_cmp key k ≡ Less)
      (records (if b then row e ∷ live_of flushes now es else live_of flushes now es))) [
        | true ↦ (ap (key_cmp key) (own e.0 e.1 (Contains-head e es)) ∙ a.0, rest)
        | false ↦ rest
      ]

  rows_ascend : (es : List (Key × Latest)) → AreOwn es → IsStrictlySortedBy key_cmp (keys_of es)
      → IsStrictlySortedBy key_cmp (records (live_of flushes now es))
  unfolding IsStrictlySortedBy
  rows_ascend [] own s = tt
  rows_ascend (e ∷ es) own s =
      let own_rest : AreOwn es = λ k x m. own k x (Contains-later e es (k, x) m) in
      let rest = rows_ascend es own_rest s.1 in
      elim (lives e) as (λ b. IsStrictlySortedBy key_cmp (records (if b then row e ∷ live_of flushes now es else live_of flushes now es))) [
        | true ↦ (
          subst (λ (k : Key). AllByRecursion (λ q. key_cmp k q ≡ Less) (records (live_of flushes now es)))
              (sym (own e.0 e.1 (Contains-head e es))) (rows_above e.0 es own_rest s.0),
          rest,
        )
        | false ↦ rest
      ]

module _ (c : Contents) (heard : List Hearing) (now : ℕ) (a : IsAsked c now) (s : StandsFor c heard) where
  last_of_entry : (k : Key) (l : Latest) → Contains c.lasts (k, l) → IsLast heard k l
  last_of_entry k l m =
      IsLast-held c heard k l (lookup-from_Contains (eq_by_cmp_equiv key_cmp-total) k l c.lasts
      (IsDistinct-from_sorted key_cmp (keys_of c.lasts) s.contents.lasts.sorted) m) s

  key_of_last-last : (k : Key) (l : Latest) → IsLast heard k l → key_of_last l ≡ k
  key_of_last-last k l last = sym (ap key_of_last last.gives) ∙ last.of_record

  entry_of_last : (k : Key) (l : Latest) → IsLast heard k l → Contains c.lasts (k, l)
  entry_of_last k l last = Contains-from_lookup key_eq-exact k l c.lasts (by (last_at k c) (s.lasts k))
    where
      by : (o : Option Latest) → MatchOption o (IsUnheard heard k) (IsLast heard k) → o ≡ Some l
      by None u = absurd (u last.hearing last.among last.of_record)
      by (Some x) u = ap Some (IsLast-same heard heard (same-itself heard) k x l u last)

  row_is_live : (r : Latest × ℕ) → Contains (live_of c.flushes now c.lasts) r
      → IsLive heard now (key_of_last r.0) r.0 × IsEnd heard (key_of_last r.0) r.1
  row_is_live r m =
      let w = entry_of_row c.flushes now c.lasts r m in
      let k = w.0.0 in
      let l = w.0.1 in
      let last = last_of_entry k l w.1 in
      let live = (living-held c heard now k l a s last).0 (ltb-true now (end_held c.flushes w.0) w.2) in
      let end = end-held c heard now k l a s live in
      subst (λ (x : Latest × ℕ). IsLive heard now (key_of_last x.0) x.0 × IsEnd heard (key_of_last x.0) x.1) w.3
      (subst (λ (q : Key). IsLive heard now q l × IsEnd heard q (end_held c.flushes w.0)) (sym (key_of_last-last k l last)) (live, end))

  live_is_row : (l : Latest) (end : ℕ) → IsLive heard now (key_of_last l) l → IsEnd heard (key_of_last l) end
      → Contains (live_of c.flushes now c.lasts) (l, end)
  live_is_row l end v e =
      let entry : Key × Latest = (key_of_last l, l) in
      let later = lt-ltb now (end_held c.flushes entry) ((living-held c heard now (key_of_last l) l a s v.last).1 v) in
      let same = same_end heard heard (key_of_last l) (end_held c.flushes entry) end (same-itself heard)
      (end-held c heard now (key_of_last l) l a s v) e in
      subst (λ n. Contains (live_of c.flushes now c.lasts) (l, n)) same
      (row_of_entry c.flushes now c.lasts entry (entry_of_last (key_of_last l) l v.last) later)

  pub AreLiveRecords-held : AreLiveRecords heard now (live_of c.flushes now c.lasts)
  AreLiveRecords-held = record {
    ascending = rows_ascend c.flushes now c.lasts (λ k x m. key_of_last-last k x (last_of_entry k x m)) s.contents.lasts.sorted;
    exactly = λ l end. (row_is_live (l, end), λ w. live_is_row l end w.0 w.1);
  }

-- ---- without their ends

-- the last hearing of a row
abbrev pub last_of : Latest × ℕ → Latest
last_of row = row.0

row_of_last : (l : Latest) (rows : List (Latest × ℕ)) → Contains (map last_of rows) l → (end : ℕ) × Contains rows (l, end)
row_of_last l [] m = absurd (Contains-nil l m)
row_of_last l (r ∷ rows) m =
    elim (Contains-cases r.0 (map last_of rows) l m) [
      | inl same ↦ (r.1, subst (λ (x : Latest). Contains (r ∷ rows) (x, r.1)) same (Contains-head r rows))
      | inr rest ↦ (let w = row_of_last l rows rest in (w.0, Contains-later r rows (l, w.0) w.1))
    ]

last_of_row : (r : Latest × ℕ) (rows : List (Latest × ℕ)) → Contains rows r → Contains (map last_of rows) r.0
last_of_row r [] m = absurd (Contains-nil r m)
last_of_row r (q ∷ rows) m = grind (arith, common_steps, Contains-cases, Contains-head, Contains-later)

-- the last hearings of the live records
pub AreLiveRows-from_records : (heard : List Hearing) (now : ℕ) (rows : List (Latest × ℕ))
    → AreLiveRecords heard now rows → AreLiveRows heard now (map last_of rows)
AreLiveRows-from_records heard now rows are = record {
  ascending = subst (IsStrictlySortedBy key_cmp) (sym (map-map key_of_last last_of rows)) are.ascending;
  exactly = λ l. (
    λ m. (let w = row_of_last l rows m in ((are.exactly l w.0).0 w.1).0),
    λ v. (let e = some_end heard (key_of_last l) l v.last in last_of_row (l, e.0) rows ((are.exactly l e.0).1 (v, e.1))),
  );
}

-- one more was taken from those that are left, and added to those that are kept
pub kept_more : {X Y : Type 0} (f : X → Y) (all : List Y) (kept new : List X) (x : X) (left rest : List Y)
    → map f kept ++ left ≡ all → left ≡ f x ∷ rest → new ≡ kept ++ x ∷ [] → map f new ++ rest ≡ all
kept_more f all kept new x left rest so_far first more = grind (arith, map-append, append_assoc)

-- nothing is left
pub kept-all : {X Y : Type 0} (f : X → Y) (all : List Y) (kept : List X) (left : List Y) → map f kept ++ left ≡ all
    → left ≡ [] → map f kept ≡ all
kept-all f all kept left so_far none = sym (append-nil (map f kept)) ∙ ap (λ l. map f kept ++ l) (sym none) ∙ so_far

-- WHAT FUNCTIONS ARE PROVED BY

pub ruleset for_lasts_of = (kept-all, kept_more, last_of)
