-- The lives by the ends of each second are those by all hearings.
use Rattle.std.proofs.Common.{◌≡◌, ℕ, zero, suc, ◌+◌, ◌<◌, ◌≤◌, ◌⊎◌, List, [], ◌∷◌, Contains, sym, ◌∙◌, subst, inl, inr, arith}
use Rattle.std.proofs.lemmas.{Bool.{cases_lt}, Bool.Decides.{nat_tests}}
use Rattle.mdns_capture.specs.Limits.{second}
use Rattle.mdns_cache.specs.Live.{life_of}
use Rattle.mdns_cache.proofs.StandsPartLemmas.{Contains-nil, Contains-head, Contains-later, Contains-cases}
use Rattle.mdns_lives.specs.declared.life.{RecordHearing.{RecordHearing}, Life.{Life}, EndReason.{EndReason}}
use Rattle.mdns_lives.specs.declared.life.EndReason.TheVariants.{Expired, Goodbye, Flushed}
use Rattle.mdns_lives.specs.{History.{IsUpTo, IsLastAt, IsLiveAt, IsEndBy, EndsBy, AreLivesBy}, Seconds.{second_of, AreEndsOf}}
use Rattle.mdns_lives.proofs.OrderLemmas.{IsUpTo-itself, IsUpTo-onward, either_order, no_later, same_heard}

-- hearings of one second are less than a second apart
within_second : (a b : RecordHearing) → second_of a ≡ second_of b → b.moment.nanos < a.moment.nanos + second
within_second a b e = omega (arith, e)

-- ---- the last hearing by a moment

abbrev HasLast : List RecordHearing → ℕ → Type 0
HasLast hs now = (last : RecordHearing) × IsLastAt hs now last

-- no hearing is as early as that
abbrev NoneYet : List RecordHearing → ℕ → Type 0
NoneYet hs now = (h : RecordHearing) → Contains hs h → now < h.moment.nanos

last_or_none : (hs : List RecordHearing) (now : ℕ) → HasLast hs now ⊎ NoneYet hs now
last_or_none [] now = inr (λ h m. absurd (Contains-nil h m))
last_or_none (h ∷ hs) now = by (last_or_none hs now) (cases_lt now h.moment.nanos)
  where
    -- the last one of the others stays the last
    other : (last : RecordHearing) → IsLastAt hs now last → (h.moment.nanos ≤ now → IsUpTo h last) → IsLastAt (h ∷ hs) now last
    other last w up = record {
      among = Contains-later h hs last w.among;
      by_then = w.by_then;
      greatest = λ x m e. elim (Contains-cases h hs x m) [
        | inl same ↦ subst (λ (y : RecordHearing). IsUpTo y last) same (up (subst (λ (y : RecordHearing). y.moment.nanos ≤ now) (sym same) e))
        | inr rest ↦ w.greatest x rest e
      ];
    }

    -- h is the last one
    first : h.moment.nanos ≤ now → ((x : RecordHearing) → Contains hs x → x.moment.nanos ≤ now → IsUpTo x h) → IsLastAt (h ∷ hs) now h
    first l all = record {
      among = Contains-head h hs;
      by_then = l;
      greatest = λ x m e. elim (Contains-cases h hs x m) [
        | inl same ↦ subst (λ (y : RecordHearing). IsUpTo y h) same (IsUpTo-itself h)
        | inr rest ↦ all x rest e
      ];
    }

    by : HasLast hs now ⊎ NoneYet hs now → (now < h.moment.nanos) ⊎ (h.moment.nanos ≤ now) → HasLast (h ∷ hs) now ⊎ NoneYet (h ∷ hs) now
    by (inl w) (inl later) = inl (w.0, other w.0 w.1 (λ l. absurd (omega (arith, l, later))))
    by (inl w) (inr l) =
        elim (either_order h w.0) [
          | inl up ↦ inl (w.0, other w.0 w.1 (λ _. up))
          | inr down ↦ inl (h, first l (λ x m e. IsUpTo-onward x w.0 h (w.1.greatest x m e) down))
        ]
    by (inr none) (inl later) = inr (λ x m. elim (Contains-cases h hs x m) [
      | inl same ↦ subst (λ (y : RecordHearing). now < y.moment.nanos) same later
      | inr rest ↦ none x rest
    ])
    by (inr none) (inr l) = inl (h, first l (λ x m e. let later = none x m in absurd (omega (arith, later, e))))

some_last : (hs : List RecordHearing) (now : ℕ) (x : RecordHearing) → Contains hs x → x.moment.nanos ≤ now → HasLast hs now
some_last hs now x m l =
    elim (last_or_none hs now) [ inl w ↦ w | inr none ↦ (let later = none x m in absurd (omega (arith, later, l))) ]

one_last : (hs : List RecordHearing) (now : ℕ) (a b : RecordHearing) → IsLastAt hs now a → IsLastAt hs now b → a ≡ b
one_last hs now a b p q = same_heard a b (q.greatest a p.among p.by_then) (p.greatest b q.among q.by_then)

-- ---- a life takes a second at least

life-second : (ttl : ℕ) → second ≤ life_of ttl
life-second zero = omega arith
life-second (suc n) = grind (arith, nat_tests)

module _ (flushes : List ℕ) where
  young-live : (hs : List RecordHearing) (now : ℕ) (last : RecordHearing) → IsLastAt hs now last → now < last.moment.nanos + second
      → IsLiveAt hs flushes now
  young-live hs now last w l =
      let long = life-second last.ttl in
      record {
        last = last;
        is_last = w;
        running = omega (arith, l, long);
        unstruck = grind arith;
      }

  ends-late : (last : RecordHearing) (end : ℕ) (reason : EndReason) → IsEndBy flushes last end reason → last.moment.nanos + second ≤ end
  ends-late last end Expired e = let long = life-second last.ttl in omega (arith, long, e.1)
  ends-late last end Goodbye e = let long = life-second last.ttl in omega (arith, long, e.1)
  ends-late last end Flushed e = grind arith

module _ (flushes : List ℕ) (hs es : List RecordHearing) (are : AreEndsOf hs es) where
  -- one of the ends, less than a second before the moment, counts no more than h
  record IsYoung (now : ℕ) (h : RecordHearing) : Type 0 where
    pub end : RecordHearing
    pub among : Contains es end
    pub by_then : end.moment.nanos ≤ now
    pub up_to : IsUpTo end h
    pub young : now < end.moment.nanos + second

  last_or_young : (now : ℕ) (h : RecordHearing) → IsLastAt hs now h → IsLastAt es now h ⊎ IsYoung now h
  last_or_young now h w =
      let b = are.between h w.among in
      elim (cases_lt now b.greatest.moment.nanos) [
        | inl later ↦ (
            let up = no_later b.least h b.from_least in
            let near = within_second b.least b.greatest (b.least_in ∙ sym b.greatest_in) in
            inr (record {
              end = b.least;
              among = b.least_there;
              by_then = omega (arith, up, w.by_then);
              up_to = b.from_least;
              young = omega (arith, later, near);
            }))
        | inr by_then ↦ (
            let down = w.greatest b.greatest (are.among b.greatest b.greatest_there) by_then in
            let same = same_heard b.greatest h down b.to_greatest in
            inl (record {
              among = subst (λ (x : RecordHearing). Contains es x) same b.greatest_there;
              by_then = w.by_then;
              greatest = λ x m e. w.greatest x (are.among x m) e;
            }))
      ]

  last_of_all : (now : ℕ) (h : RecordHearing) → IsLastAt es now h → HasLast hs now
  last_of_all now h w = some_last hs now h (are.among h w.among) w.by_then

  live-into : (now : ℕ) → IsLiveAt hs flushes now → IsLiveAt es flushes now
  live-into now w =
      elim (last_or_young now w.last w.is_last) [
        | inl at ↦ record { last = w.last; is_last = at; running = w.running; unstruck = w.unstruck }
        | inr y ↦ (let l = some_last es now y.end y.among y.by_then in
            let up = no_later y.end l.0 (l.1.greatest y.end y.among y.by_then) in
            young-live flushes es now l.0 l.1 (omega (arith, up, y.young)))
      ]

  live-from : (now : ℕ) → IsLiveAt es flushes now → IsLiveAt hs flushes now
  live-from now w =
      let l = last_of_all now w.last w.is_last in
      elim (last_or_young now l.0 l.1) [
        | inl at ↦ (let same = one_last es now l.0 w.last at w.is_last in
            record {
              last = w.last;
              is_last = subst (λ (x : RecordHearing). IsLastAt hs now x) same l.1;
              running = w.running;
              unstruck = w.unstruck;
            })
        | inr y ↦ (let up = no_later y.end l.0 y.up_to in young-live flushes hs now l.0 l.1 (omega (arith, up, y.young)))
      ]

  ends-into : (life : Life) → EndsBy hs flushes life → EndsBy es flushes life
  ends-into life w =
      grind (arith, last_or_young life.until life.last w.is_last, ends-late flushes life.last life.until life.reason w.ends, no_later)

  ends-from : (life : Life) → EndsBy es flushes life → EndsBy hs flushes life
  ends-from life w =
      let l = last_of_all life.until life.last w.is_last in
      elim (last_or_young life.until l.0 l.1) [
        | inl at ↦ grind (arith, one_last es life.until l.0 life.last)
        | inr y ↦ (let late = ends-late flushes life.last life.until life.reason w.ends in
            let up = no_later y.end life.last (w.is_last.greatest y.end y.among y.by_then) in
            absurd (omega (arith, late, up, y.young)))
      ]

  pub AreLivesBy-ends : (lives : List Life) → AreLivesBy hs flushes lives → AreLivesBy es flushes lives
  AreLivesBy-ends lives are_lives = record {
    apart = are_lives.apart;
    exactly = λ now. (λ w. (are_lives.exactly now).0 (live-from now w), λ w. live-into now ((are_lives.exactly now).1 w));
    ends = λ life m. ends-into life (are_lives.ends life m);
    untold = are_lives.untold;
  }

  pub AreLivesBy-from_ends : (lives : List Life) → AreLivesBy es flushes lives → AreLivesBy hs flushes lives
  AreLivesBy-from_ends lives are_lives = record {
    apart = are_lives.apart;
    exactly = λ now. (λ w. (are_lives.exactly now).0 (live-into now w), λ w. live-from now ((are_lives.exactly now).1 w));
    ends = λ life m. ends-from life (are_lives.ends life m);
    untold = are_lives.untold;
  }
