-- The walk over a record's hearings in order gives its lives.
use Rattle.std.proofs.Common.{◌≡◌, ℕ, zero, suc, ◌<◌, ◌≤◌, true, false, nat_lt, List, [], ◌∷◌, Contains, refl, sym}
use Rattle.std.proofs.Common.{None, subst, inl, inr, ◌⊎◌, arith, if◌then◌else◌, leb-true, leb-false}
use Rattle.std.proofs.lemmas.{Bool.{ltb-true, ltb-false, eqb-true, cases_lt}, Bool.Decides.{nat_tests}}
use Rattle.std.specs.Prelude.{nat_le}
use Rattle.mdns_lives.specs.{declared.life.RecordHearing.{RecordHearing}, declared.life.Life.{Life}, History.{IsUpTo, AreInOrder, IsLastAt}}
use Rattle.mdns_lives.specs.{History.{IsLiveAt, IsEndBy, EndsBy, AreLivesBy}, Lives.{IsInOne, AreApartAfter, AreApart}, LifeWalk.{out_of}}
use Rattle.mdns_lives.specs.LifeWalk.{end_after, reason_after, life_after, carried_on, lives_from, walked}
use Rattle.mdns_cache.specs.{Live.{life_of}}
use Rattle.mdns_lives.proofs.OrderLemmas.{IsUpTo-itself, IsUpTo-onward, no_later, same_moment, same_ttl, first_least}
use Rattle.mdns_cache.proofs.StandsPartLemmas.{Contains-nil, Contains-head, Contains-later, Contains-cases}
use Rattle.mdns_cache.proofs.EndLemmas.{end-by_life, end-reached, until_end_of}

life-positive : (ttl : ℕ) → 0 < life_of ttl
life-positive zero = omega arith
life-positive (suc n) = grind (arith, nat_tests)

module _ (flushes : List ℕ) where
  -- ---- the end after a hearing

  pub ends_later : (h : RecordHearing) → h.moment.nanos < end_after flushes h
  ends_later h = grind (arith, life-positive, end-reached)

  same_end : (a b : RecordHearing) → a.moment.nanos ≡ b.moment.nanos → a.ttl ≡ b.ttl → end_after flushes a ≡ end_after flushes b
  same_end a b e f = grind arith

  -- the moment is before the end after the last hearing until then
  abbrev pub IsBeforeEnd : List RecordHearing → ℕ → Type 0
  IsBeforeEnd hs now = (last : RecordHearing) × IsLastAt hs now last × (now < end_after flushes last)

  live-before : (hs : List RecordHearing) (now : ℕ) → IsLiveAt hs flushes now → IsBeforeEnd hs now
  live-before hs now w = (
    w.last,
    w.is_last,
    (until_end_of flushes w.last.moment.nanos (out_of w.last) now).1 (w.running, w.unstruck),
  )

  before-live : (hs : List RecordHearing) (now : ℕ) → IsBeforeEnd hs now → IsLiveAt hs flushes now
  before-live hs now w =
      let both = (until_end_of flushes w.0.moment.nanos (out_of w.0) now).0 w.2 in
      record { last = w.0; is_last = w.1; running = both.0; unstruck = both.1 }

  -- ---- one hearing before others

  -- the only hearing is the last one
  only_last : (p : RecordHearing) (now : ℕ) → p.moment.nanos ≤ now → IsLastAt (p ∷ []) now p
  only_last p now l = grind (arith, Contains-head, Contains-cases, IsUpTo-itself, Contains-nil)

  only_before : (p : RecordHearing) (now : ℕ) → IsBeforeEnd (p ∷ []) now → (p.moment.nanos ≤ now) × (now < end_after flushes p)
  only_before p now w = grind (arith, Contains-cases, Contains-nil)

  -- before the next hearing the first one is the last
  first_last : (p h : RecordHearing) (hs : List RecordHearing) (now : ℕ) → AreInOrder (h ∷ hs) → p.moment.nanos ≤ now → now < h.moment.nanos
      → IsLastAt (p ∷ h ∷ hs) now p
  first_last p h hs now o l k = record {
    among = Contains-head p (h ∷ hs);
    by_then = l;
    greatest = λ x m e. elim (Contains-cases p (h ∷ hs) x m) [
      | inl same ↦ subst (λ (y : RecordHearing). IsUpTo y p) same (IsUpTo-itself p)
      | inr rest ↦ (let up : h.moment.nanos ≤ x.moment.nanos = no_later h x (first_least h hs o x rest) in absurd (omega (arith, up, e, k)))
    ];
  }

  -- the last of the later hearings is the last
  later_last : (p h : RecordHearing) (hs : List RecordHearing) (now : ℕ) (last : RecordHearing) → IsUpTo p h → AreInOrder (h ∷ hs)
      → IsLastAt (h ∷ hs) now last → IsLastAt (p ∷ h ∷ hs) now last
  later_last p h hs now last b o w = record {
    among = Contains-later p (h ∷ hs) last w.among;
    by_then = w.by_then;
    greatest = λ x m e. elim (Contains-cases p (h ∷ hs) x m) [
      | inl same ↦ subst (λ (y : RecordHearing). IsUpTo y last) same (IsUpTo-onward p h last b (first_least h hs o last w.among))
      | inr rest ↦ w.greatest x rest e
    ];
  }

  -- from the next hearing on, the first one isn't needed
  next_last : (p h : RecordHearing) (hs : List RecordHearing) (now : ℕ) (last : RecordHearing) → IsUpTo p h → h.moment.nanos ≤ now
      → IsLastAt (p ∷ h ∷ hs) now last → now < end_after flushes last → IsBeforeEnd (h ∷ hs) now
  next_last p h hs now last b k w e =
      elim (Contains-cases p (h ∷ hs) last w.among) [
        | inl same ↦ (
            let up : IsUpTo h last = w.greatest h (Contains-later p (h ∷ hs) h (Contains-head h hs)) k in
            let down : IsUpTo last h = subst (λ (y : RecordHearing). IsUpTo y h) same b in (
              h,
              record {
                among = Contains-head h hs;
                by_then = k;
                greatest = λ x m l. IsUpTo-onward x last h (w.greatest x (Contains-later p (h ∷ hs) x m) l) down;
              },
              subst (λ n. now < n) (same_end last h (same_moment last h down up) (same_ttl last h down up)) e,
            ))
        | inr rest ↦ (
          last,
          record { among = rest; by_then = w.by_then; greatest = λ x m l. w.greatest x (Contains-later p (h ∷ hs) x m) l },
          e,
        )
      ]

  -- the moment is from a hearing on, before the next one, and before the end
  abbrev IsPiece : RecordHearing → RecordHearing → ℕ → Type 0
  IsPiece p h now = (p.moment.nanos ≤ now) × (now < h.moment.nanos) × (now < end_after flushes p)

  step : (p h : RecordHearing) (hs : List RecordHearing) (now : ℕ) → IsUpTo p h → AreInOrder (h ∷ hs)
      → IsBeforeEnd (p ∷ h ∷ hs) now → IsPiece p h now ⊎ IsBeforeEnd (h ∷ hs) now
  step p h hs now b o w =
      elim (cases_lt now h.moment.nanos) [
        | inl l ↦ elim (Contains-cases p (h ∷ hs) w.0 w.1.among) [
          | inl same ↦ inl (subst (λ (y : RecordHearing). IsPiece y h now) (sym same) (w.1.by_then, l, w.2))
          | inr rest ↦ grind (arith, no_later h w.0 (first_least h hs o w.0 rest))
        ]
        | inr k ↦ inr (next_last p h hs now w.0 b k w.1 w.2)
      ]

  piece-before : (p h : RecordHearing) (hs : List RecordHearing) (now : ℕ) → AreInOrder (h ∷ hs) → p.moment.nanos ≤ now
      → now < h.moment.nanos → now < end_after flushes p → IsBeforeEnd (p ∷ h ∷ hs) now
  piece-before p h hs now o l k e = (p, first_last p h hs now o l k, e)

  rest-before : (p h : RecordHearing) (hs : List RecordHearing) (now : ℕ) → IsUpTo p h → AreInOrder (h ∷ hs) → IsBeforeEnd (h ∷ hs) now
      → IsBeforeEnd (p ∷ h ∷ hs) now
  rest-before p h hs now b o w = (w.0, later_last p h hs now w.0 b o w.1, w.2)

  -- ---- the moments in the lives of a walk

  -- `life` has begun no later than the hearing p, and ends as p says
  abbrev IsSoFar : RecordHearing → Life → Type 0
  IsSoFar p life = (life.from.nanos ≤ p.moment.nanos) × (life.until ≡ end_after flushes p)

  -- the moment is in the life, before the hearing p
  abbrev IsEarlier : RecordHearing → Life → ℕ → Type 0
  IsEarlier p life now = (life.from.nanos ≤ now) × (now < p.moment.nanos)

  from_lives : (hs : List RecordHearing) (p : RecordHearing) (life : Life) (now : ℕ) → AreInOrder (p ∷ hs) → IsSoFar p life
      → IsInOne (lives_from flushes life hs) now → IsEarlier p life now ⊎ IsBeforeEnd (p ∷ hs) now
  unfolding lives_from
  from_lives [] p life now o s (inl d) =
      elim (cases_lt now p.moment.nanos) [
        | inl l ↦ inl (d.0, l)
        | inr l ↦ inr (p, only_last p now l, omega (arith, s.1, d.1))
      ]
  from_lives [] p life now o s (inr d) = absurd d
  from_lives (h ∷ hs) p life now o s w =
      elim (nat_le h.moment.nanos life.until) as (λ b. nat_le h.moment.nanos life.until ≡ b
      → IsInOne (if b then lives_from flushes (carried_on life (life_after flushes h)) hs
      else life ∷ lives_from flushes (life_after flushes h) hs) now → IsEarlier p life now ⊎ IsBeforeEnd (p ∷ h ∷ hs) now) [
        | true ↦ λ x v.
            let meets : h.moment.nanos ≤ life.until = leb-true h.moment.nanos life.until x in
            let up : p.moment.nanos ≤ h.moment.nanos = no_later p h o.0 in
            elim (from_lives hs h (carried_on life (life_after flushes h)) now o.1 (omega (arith, s.0, up), refl) v) [
              | inl e ↦ elim (cases_lt now p.moment.nanos) [
                | inl l ↦ inl (e.0, l)
                | inr l ↦ inr (piece-before p h hs now o.1 l e.1 (omega (arith, e.1, meets, s.1)))
              ]
              | inr e ↦ inr (rest-before p h hs now o.0 o.1 e)
            ]
        | false ↦ λ x v.
            let past : life.until < h.moment.nanos = leb-false h.moment.nanos life.until x in
            elim v [
              | inl d ↦ elim (cases_lt now p.moment.nanos) [
                | inl l ↦ inl (d.0, l)
                | inr l ↦ inr (piece-before p h hs now o.1 l (omega (arith, d.1, past)) (omega (arith, d.1, s.1)))
              ]
              | inr r ↦ elim (from_lives hs h (life_after flushes h) now o.1 (omega arith, refl) r) [
                | inl e ↦ absurd (let a : h.moment.nanos ≤ now = e.0 in let b : now < h.moment.nanos = e.1 in omega (arith, a, b))
                | inr e ↦ inr (rest-before p h hs now o.0 o.1 e)
              ]
            ]
      ] refl w

  into_lives : (hs : List RecordHearing) (p : RecordHearing) (life : Life) (now : ℕ) → AreInOrder (p ∷ hs) → IsSoFar p life
      → IsEarlier p life now ⊎ IsBeforeEnd (p ∷ hs) now → IsInOne (lives_from flushes life hs) now
  unfolding lives_from
  into_lives [] p life now o s (inl e) = let end = ends_later p in inl (e.0, omega (arith, e.1, end, s.1))
  into_lives [] p life now o s (inr w) = let d = only_before p now w in inl (omega (arith, s.0, d.0), omega (arith, s.1, d.1))
  into_lives (h ∷ hs) p life now o s w =
      let up : p.moment.nanos ≤ h.moment.nanos = no_later p h o.0 in
      let end : p.moment.nanos < end_after flushes p = ends_later p in
      elim (nat_le h.moment.nanos life.until) as (λ b. nat_le h.moment.nanos life.until ≡ b
      → IsInOne (if b then lives_from flushes (carried_on life (life_after flushes h)) hs
      else life ∷ lives_from flushes (life_after flushes h) hs) now) [
        | true ↦ λ x.
            into_lives hs h (carried_on life (life_after flushes h)) now o.1 (omega (arith, s.0, up), refl)
            (elim w [
              | inl e ↦ inl (e.0, omega (arith, e.1, up))
              | inr v ↦ elim (step p h hs now o.0 o.1 v)
                  [ inl q ↦ inl (omega (arith, s.0, q.0), q.1) | inr r ↦ inr r ]
            ])
        | false ↦ λ x.
            elim w [
              | inl e ↦ inl (e.0, omega (arith, e.1, end, s.1))
              | inr v ↦ elim (step p h hs now o.0 o.1 v) [
                | inl q ↦ inl (omega (arith, s.0, q.0), omega (arith, s.1, q.2))
                | inr r ↦ inr (into_lives hs h (life_after flushes h) now o.1 (omega arith, refl) (inr r))
              ]
            ]
      ] refl

  -- ---- they are apart

  -- and after a moment before the first of them
  apart : (hs : List RecordHearing) (p : RecordHearing) (life : Life) → AreInOrder (p ∷ hs) → IsSoFar p life
      → AreApart (lives_from flushes life hs)
      × ((low : ℕ) → low < life.from.nanos → AreApartAfter low (lives_from flushes life hs))
  unfolding lives_from
  apart [] p life o s = grind (arith, ends_later)
  apart (h ∷ hs) p life o s =
      let up : p.moment.nanos ≤ h.moment.nanos = no_later p h o.0 in
      let end : p.moment.nanos < end_after flushes p = ends_later p in
      elim (nat_le h.moment.nanos life.until) as (λ b. nat_le h.moment.nanos life.until ≡ b
      → AreApart (if b then lives_from flushes (carried_on life (life_after flushes h)) hs
      else life ∷ lives_from flushes (life_after flushes h) hs)
      × ((low : ℕ) → low < life.from.nanos
      → AreApartAfter low (if b then lives_from flushes (carried_on life (life_after flushes h)) hs
      else life ∷ lives_from flushes (life_after flushes h) hs))) [
        | true ↦ λ x. apart hs h (carried_on life (life_after flushes h)) o.1 (omega (arith, s.0, up), refl)
        | false ↦ λ x.
            let runs : life.from.nanos < life.until = omega (arith, s.0, s.1, end) in
            let rest = (apart hs h (life_after flushes h) o.1 (omega arith, refl)).1 life.until (leb-false h.moment.nanos life.until x) in
            ((runs, rest), λ low l. (l, runs, rest))
      ] refl

  -- ---- why they end

  end_by : (h : RecordHearing) → IsEndBy flushes h (end_after flushes h) (reason_after flushes h)
  end_by h = grind (arith, end-by_life, nat_lt, ltb-true, end-reached, ltb-false, eqb-true, nat_tests)

  later_ends : (p h : RecordHearing) (hs : List RecordHearing) (life : Life) → IsUpTo p h → AreInOrder (h ∷ hs)
      → EndsBy (h ∷ hs) flushes life → EndsBy (p ∷ h ∷ hs) flushes life
  later_ends p h hs life b o w = record { is_last = later_last p h hs life.until life.last b o w.is_last; ends = w.ends }

  -- `life` ends as the hearing p says
  abbrev IsEnding : RecordHearing → Life → Type 0
  IsEnding p life = (life.from.nanos ≤ p.moment.nanos) × (life.until ≡ end_after flushes p) × (life.reason ≡ reason_after flushes p)
      × (life.last ≡ p)

  end_of_life : (hs : List RecordHearing) (p : RecordHearing) (life : Life) → IsEnding p life → IsLastAt hs life.until p → EndsBy hs flushes life
  end_of_life hs p life s last = grind (arith, end_by)

  ends_of_lives : (hs : List RecordHearing) (p : RecordHearing) (life : Life) → AreInOrder (p ∷ hs) → IsEnding p life
      → (x : Life) → Contains (lives_from flushes life hs) x → EndsBy (p ∷ hs) flushes x
  unfolding lives_from
  ends_of_lives [] p life o s x m =
      let end : p.moment.nanos < end_after flushes p = ends_later p in
      elim (Contains-cases life [] x m) [
        | inl same ↦ grind (arith, end_of_life (p ∷ []) p life s (only_last p life.until (omega (arith, end, s.1))))
        | inr rest ↦ absurd (Contains-nil x rest)
      ]
  ends_of_lives (h ∷ hs) p life o s x m =
      let up : p.moment.nanos ≤ h.moment.nanos = no_later p h o.0 in
      let end : p.moment.nanos < end_after flushes p = ends_later p in
      elim (nat_le h.moment.nanos life.until) as (λ b. nat_le h.moment.nanos life.until ≡ b
      → Contains (if b then lives_from flushes (carried_on life (life_after flushes h)) hs
      else life ∷ lives_from flushes (life_after flushes h) hs) x → EndsBy (p ∷ h ∷ hs) flushes x) [
        | true ↦ λ e c. later_ends p h hs x o.0 o.1
            (ends_of_lives hs h (carried_on life (life_after flushes h)) o.1 (omega (arith, s.0, up), refl, refl, refl) x c)
        | false ↦ λ e c.
            let past : life.until < h.moment.nanos = leb-false h.moment.nanos life.until e in
            elim (Contains-cases life (lives_from flushes (life_after flushes h) hs) x c) [
              | inl same ↦ subst (λ (y : Life). EndsBy (p ∷ h ∷ hs) flushes y) same
                  (end_of_life (p ∷ h ∷ hs) p life s (first_last p h hs life.until o.1 (omega (arith, end, s.1)) past))
              | inr rest ↦ later_ends p h hs x o.0 o.1
                  (ends_of_lives hs h (life_after flushes h) o.1 (omega arith, refl, refl, refl) x rest)
            ]
      ] refl m

  -- they tell no goodbye
  untold_lives : (hs : List RecordHearing) (life : Life) → life.taken_back ≡ None → (x : Life) → Contains (lives_from flushes life hs) x
      → x.taken_back ≡ None
  unfolding lives_from
  untold_lives [] life u x m = grind (arith, Contains-cases, Contains-nil)
  untold_lives (h ∷ hs) life u x m =
      let next = life_after flushes h in
      grind (arith, Contains-cases, untold_lives hs (carried_on life next) refl x, untold_lives hs next refl x)

  -- ---- the walk gives the lives

  pub AreLivesBy-walked : (hs : List RecordHearing) → AreInOrder hs → AreLivesBy hs flushes (walked flushes hs)
  AreLivesBy-walked [] o = grind (arith, apart, Contains-nil)
  AreLivesBy-walked (p ∷ hs) o = record {
    apart = (apart hs p (life_after flushes p) o (omega arith, refl)).0;
    exactly = λ now. (
      λ w. into_lives hs p (life_after flushes p) now o (omega arith, refl) (inr (live-before (p ∷ hs) now w)),
      grind (arith, from_lives, before-live),
    );
    ends = λ life m. ends_of_lives hs p (life_after flushes p) o (omega arith, refl, refl, refl) life m;
    untold = untold_lives hs (life_after flushes p) refl;
  }

  -- ---- one step of the walk

  pub lives_from-over : (life : Life) → lives_from flushes life [] ≡ life ∷ []
  unfolding lives_from
  lives_from-over life = refl

  pub lives_from-on : (life : Life) (h : RecordHearing) (hs : List RecordHearing) → h.moment.nanos ≤ life.until
      → lives_from flushes life (h ∷ hs) ≡ lives_from flushes (carried_on life (life_after flushes h)) hs
  unfolding lives_from
  lives_from-on life h hs l = grind (arith, leb-false)

  pub lives_from-anew : (life : Life) (h : RecordHearing) (hs : List RecordHearing) → life.until < h.moment.nanos
      → lives_from flushes life (h ∷ hs) ≡ life ∷ lives_from flushes (life_after flushes h) hs
  unfolding lives_from
  lives_from-anew life h hs l = grind (arith, leb-true)
