-- As of a moment that no hearing is later than, the lives that go on after it are those of the records that are live then.
use Rattle.std.proofs.Common.{◌≡◌, ◌⊎◌, ℕ, zero, suc, ◌<◌, ◌≤◌, Bool, nat_lt, List, [], ◌∷◌, map}
use Rattle.std.proofs.{Common.{Contains, refl, sym, ap, ◌∙◌, subst, inl, inr, arith}, lemmas.Bool.{cases_lt, ltb-true, lt-ltb, le-ltb}}
use Rattle.std.specs.{List.{AllByRecursion, filter, flat_map}, List.Sorted.{IsStrictlySortedBy}, declared.cmp.Ordering.TheVariants.{Less}}
use Rattle.mdns_message.specs.{declared.hearing.Hearing.{Hearing}, declared.key.Key.{Key}, Resource.{key_cmp}}
use Rattle.mdns_join.specs.declared.latest.Latest.{Latest}
use Rattle.mdns_cache.specs.Live.{AreLiveRecords, IsEnd, IsLast, IsLive, SameHearings, key_of_last}
use Rattle.mdns_cache.proofs.StandsPartLemmas.{Contains-nil, Contains-head, Contains-later, Contains-cases, IsLast-among}
use Rattle.mdns_cache.proofs.StandsPartLemmas.{IsLast-same, same-itself, Contains-map, Contains-flat_map, from_map, from_flat_map}
use Rattle.mdns_lives.specs.{declared.life.Life.{Life}, Lives.{AreApart, AreApartAfter, AreLives, IsDuring, IsInOne, heard_until}}
use Rattle.mdns_lives.specs.Chronicle.{AreAllLives, live_rows}
use Rattle.mdns_lives.proofs.{FilterLemmas.{from-filter, to-filter}, LawLemmas.{NoneAfter, SomeEnd, UntilEnd, during, ends_as_reported}}
use Rattle.mdns_lives.proofs.{LawLemmas.{live-whole, none-after, until-all}, OneListLemmas.{after_low, apart-rest}}

-- ---- lives that are apart

after_of : (low : ℕ) (lives : List Life) (life : Life) → AreApartAfter low lives → Contains lives life
    → (low < life.from.nanos) × (life.from.nanos < life.until)
after_of low [] life a m = absurd (Contains-nil life m)
after_of low (x ∷ xs) life a m = grind (arith, Contains-cases, after_of x.until xs life a.2)

not_empty : (lives : List Life) (life : Life) → AreApart lives → Contains lives life → life.from.nanos < life.until
not_empty [] life a m = absurd (Contains-nil life m)
not_empty (x ∷ xs) life a m = elim (Contains-cases x xs life m) [
  | inl same ↦ subst (λ (y : Life). y.from.nanos < y.until) same a.0
  | inr rest ↦ (after_of x.until xs life a.1 rest).1
]

-- the moment just before a life is in none
not_just_before : (lives : List Life) (life : Life) (m : ℕ) → AreApart lives → Contains lives life → suc m ≡ life.from.nanos
    → IsInOne lives m → ⊥
not_just_before [] life m a c e w = w
not_just_before (x ∷ xs) life m a c e w =
    elim (Contains-cases x xs life c) [
      | inl same ↦ grind (arith, after_low)
      | inr rest ↦ (let later = (after_of x.until xs life a.1 rest).0 in
          elim w [
            | inl d ↦ (let before : m < x.until = d.1 in absurd (omega (arith, e, later, before)))
            | inr r ↦ not_just_before xs life m (apart-rest x.until xs a.1) rest e r
          ])
    ]

one_of : (lives : List Life) (now : ℕ) → IsInOne lives now → (life : Life) × Contains lives life × IsDuring life now
one_of [] now w = absurd w
one_of (x ∷ xs) now (inl d) = (x, Contains-head x xs, d)
one_of (x ∷ xs) now (inr r) = let w = one_of xs now r in (w.0, Contains-later x xs w.0 w.1, w.2)

-- ---- rows of the lives that go on

abbrev pub Row : Type 0
Row = Latest × List Life

abbrev pub row_record : Row → Key
row_record row = key_of_last row.0

abbrev pub goes_past : ℕ → Life → Bool
goes_past now life = nat_lt now life.until

abbrev shown : ℕ → Row → List (Latest × ℕ)
shown now row = map (λ (life : Life). (row.0, life.until)) (filter (goes_past now) row.1)

abbrev shown_record : Latest × ℕ → Key
shown_record row = key_of_last row.0

-- the row and the life of an entry, which shows them by f
pub record IsShown {X : Type 0} (f : Latest → Life → X) (now : ℕ) (rows : List Row) (x : X) : Type 0 where
  pub last : Latest
  pub lives : List Life
  pub life : Life
  pub row : Contains rows (last, lives)
  pub among : Contains lives life
  pub later : now < life.until
  pub is : f last life ≡ x

pub from_rows : {X : Type 0} (f : Latest → Life → X) (now : ℕ) (rows : List Row) (x : X)
    → Contains (flat_map (λ (row : Row). map (f row.0) (filter (goes_past now) row.1)) rows) x → IsShown f now rows x
from_rows f now rows x c =
    let w = from_flat_map (λ (row : Row). map (f row.0) (filter (goes_past now) row.1)) rows x c in
    let v = from_map (f w.0.0) (filter (goes_past now) w.0.1) x w.2 in
    let kept = from-filter (goes_past now) w.0.1 v.0 v.2 in
    record {
      last = w.0.0;
      lives = w.0.1;
      life = v.0;
      row = w.1;
      among = kept.0;
      later = ltb-true now v.0.until kept.1;
      is = v.1;
    }

to_rows : (now : ℕ) (rows : List Row) (l : Latest) (lives : List Life) (life : Life) → Contains rows (l, lives)
    → Contains lives life → now < life.until → Contains (live_rows now rows) (l, life.until)
to_rows now rows l lives life r m later =
    Contains-flat_map (shown now) rows (l, lives) (l, life.until) r
    (Contains-map (λ (life : Life). (l, life.until)) (filter (goes_past now) lives) life
    (to-filter (goes_past now) lives life m (lt-ltb now life.until later)))

-- each row shows at most one life
abbrev IsShort : ℕ → List Life → Type 0
IsShort now lives = (filter (goes_past now) lives ≡ []) ⊎ ((x : Life) × (filter (goes_past now) lives ≡ x ∷ []))

abbrev AllAfter : Key → List Key → Type 0
AllAfter key keys = AllByRecursion (λ k. key_cmp key k ≡ Less) keys

after_shown : (now : ℕ) (key : Key) (rows : List Row) → ((row : Row) → Contains rows row → IsShort now row.1)
    → AllAfter key (map row_record rows) → AllAfter key (map shown_record (live_rows now rows))
after_shown now key [] short a = tt
after_shown now key (row ∷ rows) short a =
    let rest = after_shown now key rows (λ r m. short r (Contains-later row rows r m)) a.1 in
    elim (short row (Contains-head row rows)) [
      | inl none ↦ grind arith
      | inr one ↦ grind arith
    ]

ascending_rows : (now : ℕ) (rows : List Row) → ((row : Row) → Contains rows row → IsShort now row.1)
    → IsStrictlySortedBy key_cmp (map row_record rows) → IsStrictlySortedBy key_cmp (map shown_record (live_rows now rows))
unfolding IsStrictlySortedBy
ascending_rows now [] short s = tt
ascending_rows now (row ∷ rows) short s =
    let later = λ (r : Row) (m : Contains rows r). short r (Contains-later row rows r m) in
    let rest = ascending_rows now rows later s.1 in
    elim (short row (Contains-head row rows)) [
      | inl none ↦ grind arith
      | inr one ↦ grind (arith, after_shown now (key_of_last row.0) rows later s.0)
    ]

-- a record has one end (`one_end` of mdns_cache)
abbrev pub OneEnd : Type 0
OneEnd = (heard others : List Hearing) (key : Key) (d e : ℕ) → SameHearings heard others → IsEnd heard key d → IsEnd others key e → d ≡ e

module _ (some_end : SomeEnd) (until_end : UntilEnd) (same_end : OneEnd) (heard : List Hearing) (now : ℕ) (none : NoneAfter heard now) where
  -- ---- one record

  module _ (key : Key) (lives : List Life) (are : AreLives heard key lives) where
    -- a life that goes on has begun
    begun : (life : Life) → Contains lives life → now < life.until → life.from.nanos ≤ now
    begun life m later =
        elim (cases_lt now life.from.nanos) [
          | inl early ↦ by life.from.nanos refl early
          | inr l ↦ l
        ]
      where
        by : (from : ℕ) → life.from.nanos ≡ from → now < from → life.from.nanos ≤ now
        by zero e l = absurd (omega (arith, l))
        by (suc n) e l =
            let long : life.from.nanos < life.until = not_empty lives life are.apart m in
            let here = during lives life life.from.nanos m (omega arith, long) in
            let upto : now ≤ n = omega (arith, l) in
            let live = (are.exactly life.from.nanos).1 here in
            let none_then = none-after heard now life.from.nanos none (omega (arith, e, upto)) in
            let whole = (live-whole heard key life.from.nanos none_then).0 live in
            let last = whole.1.last in
            let end = some_end heard key (record { hearing = last.hearing; among = last.among; of_record = last.of_record }) in
            let before : life.from.nanos < end.0 = (until_end heard key life.from.nanos end.0 end.1).0 whole in
            let just = (until_end heard key n end.0 end.1).1 (omega (arith, before, e)) in
            let in_one = (are.exactly n).0 ((live-whole heard key n (none-after heard now n none upto)).1 just) in
            absurd (not_just_before lives life n are.apart m (sym e) in_one)

    pub goes_on : (life : Life) → Contains lives life → now < life.until → IsDuring life now
    goes_on life m later = (begun life m later, later)

    live_now : (life : Life) → Contains lives life → now < life.until → (l : Latest) × IsLive heard now key l
    live_now life m later =
        (live-whole heard key now none).0 ((are.exactly now).1 (during lives life now m (goes_on life m later)))

    -- at most one goes on
    short : (xs : List Life) → AreApart xs → ((x : Life) → Contains xs x → Contains lives x)
        → IsShort now xs
    short [] a among = inl refl
    short (x ∷ xs) a among =
        elim (cases_lt now x.until) [
          | inl later ↦ inr (
            x,
            rw (lt-ltb now x.until later) (ap (λ (ys : List Life). x ∷ ys)
                (over x.until xs later a.1 (λ y m. among y (Contains-later x xs y m)))),
          )
          | inr past ↦ rw (le-ltb now x.until past) (short xs (apart-rest x.until xs a.1) (λ y m. among y (Contains-later x xs y m)))
        ]
      where
        over : (low : ℕ) (ys : List Life) → now < low → AreApartAfter low ys → ((y : Life) → Contains ys y → Contains lives y)
            → filter (goes_past now) ys ≡ []
        over low [] l a among = refl
        over low (y ∷ ys) l a among =
            elim (cases_lt now y.until) [
              | inl later ↦ (let early : y.from.nanos ≤ now = begun y (among y (Contains-head y ys)) later in
                  absurd (omega (arith, early, l, a.0)))
              | inr past ↦ rw (le-ltb now y.until past) (over y.until ys (omega (arith, a.0, a.1, l)) a.2
                  (λ z m. among z (Contains-later y ys z m)))
            ]

  -- ---- all records

  module _ (rows : List Row) (all : AreAllLives heard rows) where
    row_parts : (row : Row) → Contains rows row → IsLast heard (key_of_last row.0) row.0 × AreLives heard (key_of_last row.0) row.1
    row_parts row m = all.each row.0 row.1 m

    -- the record of a life that goes on is live, and ends with it
    pub live_life : (l : Latest) (lives : List Life) (life : Life) → Contains rows (l, lives) → Contains lives life
        → now < life.until → IsLive heard now (key_of_last l) l × IsEnd heard (key_of_last l) life.until
    live_life l lives life r m later =
        let parts = all.each l lives r in
        let live = live_now (key_of_last l) lives parts.1 life m later in
        let same = IsLast-same heard heard (same-itself heard) (key_of_last l) live.0 l live.1.last parts.0 in (
          subst (λ (x : Latest). IsLive heard now (key_of_last l) x) same live.1,
          ends_as_reported some_end until_end heard (key_of_last l) lives life now none parts.1 m
              (goes_on (key_of_last l) lives parts.1 life m later),
        )

    into_live : (l : Latest) (end : ℕ) → Contains (live_rows now rows) (l, end)
        → IsLive heard now (key_of_last l) l × IsEnd heard (key_of_last l) end
    into_live l end m =
        let w = from_rows (λ last life. (last, life.until)) now rows (l, end) m in
        grind (arith, live_life w.last w.lives w.life w.row w.among w.later)

    from_live : (l : Latest) (end : ℕ) → IsLive heard now (key_of_last l) l → IsEnd heard (key_of_last l) end
        → Contains (live_rows now rows) (l, end)
    from_live l end live is_end =
        let row = all.all (key_of_last l) l live.last in
        let parts = all.each l row.0 row.1 in
        let in_one = (parts.1.exactly now).0 ((live-whole heard (key_of_last l) now none).1 (l, live)) in
        let life = one_of row.0 now in_one in
        let later : now < life.0.until = life.2.1 in
        let ends = (live_life l row.0 life.0 row.1 life.1 later).1 in
        let same : life.0.until ≡ end = same_end heard heard (key_of_last l) life.0.until end (same-itself heard) ends is_end in
        subst (λ n. Contains (live_rows now rows) (l, n)) same (to_rows now rows l row.0 life.0 row.1 life.1 later)

    pub AreLiveRecords-lives : AreLiveRecords heard now (live_rows now rows)
    AreLiveRecords-lives = record {
      ascending = ascending_rows now rows (λ row m. short (key_of_last row.0) row.1 (row_parts row m).1 row.1 (row_parts row m).1.apart
          (λ x c. c)) all.ascending;
      exactly = λ l end. (λ m. into_live l end m, λ w. from_live l end w.0 w.1);
    }

    -- a life that goes on ends by the record's last hearing
    pub last_life : (l : Latest) (lives : List Life) (life : Life) → Contains rows (l, lives) → Contains lives life
        → now < life.until → (life.last.moment ≡ l.moment) × (life.last.ttl ≡ l.ttl)
    last_life l lives life r m later =
        let parts = all.each l lives r in
        let ends = parts.1.ends life m in
        let whole = IsLast-among (heard_until life.until heard) heard
        (until-all life.until heard (none-after heard now life.until none (omega (arith, later)))) (key_of_last l) ends.last ends.is_last in
        let same = IsLast-same heard heard (same-itself heard) (key_of_last l) ends.last l whole parts.0 in
        (sym ends.moment ∙ ap (λ (x : Latest). x.moment) same, sym ends.ttl ∙ ap (λ (x : Latest). x.ttl) same)
