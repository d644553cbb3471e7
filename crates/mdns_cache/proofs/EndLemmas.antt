-- The end of a record, by the flush moments that a cache holds for its set.
use Rattle.std.proofs.Common.{rules, ◌≡◌, ℕ, ◌+◌, ◌<◌, ◌≤◌, true, false, ◌==◌, min, nat_lt, List, [], ◌∷◌, refl, sym, ap}
use Rattle.std.proofs.Common.{◌∙◌, subst, inl, inr, ◌⊎◌, arith, if◌then◌else◌, ◌↔◌}
use Rattle.std.proofs.lemmas.Bool.{false≢true, ltb-true, ltb-false, or_cases, or_left, or_right, eqb-true, eq-eqb, cases_lt}
use Rattle.mdns_message.specs.declared.{hearing.Hearing.{Hearing}, key.Key.{Key}}
use Rattle.mdns_join.specs.{declared.latest.Latest.{Latest}, Kept.{has, newest, kept, IsStruckBy}}
use Rattle.mdns_join.specs.laws.Kept.{has-from_IsKept, heard_from_kept}
use Rattle.mdns_capture.specs.Limits.{second}
use Rattle.mdns_cache.specs.{Live.{IsLast, SameHearings, life_of, Strikes, IsLive, flush_moments, IsEnd}, LentRecords.{end_of}}
use Rattle.mdns_cache.proofs.StandsPartLemmas.{IsFlushedAt-from_has, has-from_flush, same-itself, same-back, IsLast-same, IsLast-among}

-- ---- the end by flush moments is the least of what they and the life give

pub end-by_life : (ms : List ℕ) (t out : ℕ) → end_of ms t out ≤ out
end-by_life [] t out = omega arith
end-by_life (m ∷ ms) t out = grind (arith, nat_lt, end-by_life ms t out)

end-by_flush : (ms : List ℕ) (t out f : ℕ) → has ms f ≡ true → t + second < f → end_of ms t out ≤ f + second
end-by_flush [] t out f h l = absurd (false≢true h)
end-by_flush (m ∷ ms) t out f h l =
    elim (or_cases (m == f) (has ms f) h) [
      | inl a ↦
          (let same : m ≡ f = eqb-true m f a in
          elim (nat_lt (t + second) m) as (λ b. nat_lt (t + second) m ≡ b
          → (if b then min (m + second) (end_of ms t out) else end_of ms t out) ≤ f + second) [
            | true ↦ λ x. omega (arith, same)
            | false ↦ λ x. let no : m ≤ t + second = ltb-false (t + second) m x in absurd (omega (arith, same, no, l))
          ] refl)
      | inr b ↦
          (let rest = end-by_flush ms t out f b l in
          elim (nat_lt (t + second) m) as (λ b.
          (if b then min (m + second) (end_of ms t out) else end_of ms t out) ≤ f + second)
          [ true ↦ omega (arith, rest) | false ↦ rest ])
    ]

-- one of the moments gives the end
pub record IsGiven (ms : List ℕ) (t end : ℕ) : Type 0 where
  pub moment : ℕ
  pub among : has ms moment ≡ true
  pub later : t + second < moment
  pub gives : moment + second ≡ end

given-later : (m : ℕ) (ms : List ℕ) (t end : ℕ) → IsGiven ms t end → IsGiven (m ∷ ms) t end
given-later m ms t end g = record {
  moment = g.moment;
  among = or_right (m == g.moment) (has ms g.moment) g.among;
  later = g.later;
  gives = g.gives;
}

least_of : (x y : ℕ) → (min x y ≡ x) ⊎ (min x y ≡ y)
least_of x y = elim (cases_lt x y) [ inl l ↦ inl (omega (arith, l)) | inr l ↦ inr (omega (arith, l)) ]

pub end-reached : (ms : List ℕ) (t out : ℕ) → (end_of ms t out ≡ out) ⊎ IsGiven ms t (end_of ms t out)
end-reached [] t out = inl refl
end-reached (m ∷ ms) t out =
    elim (nat_lt (t + second) m) as (λ b. nat_lt (t + second) m ≡ b
    → ((if b then min (m + second) (end_of ms t out) else end_of ms t out) ≡ out)
    ⊎ IsGiven (m ∷ ms) t (if b then min (m + second) (end_of ms t out) else end_of ms t out)) [
      | true ↦ λ x.
          elim (least_of (m + second) (end_of ms t out)) [
            | inl first ↦ inr (record {
              moment = m;
              among = or_left (m == m) (has ms m) (eq-eqb m m refl);
              later = ltb-true (t + second) m x;
              gives = sym first;
            })
            | inr rest ↦ elim (end-reached ms t out) [
              | inl a ↦ inl (rest ∙ a)
              | inr g ↦ inr (subst (λ n. IsGiven (m ∷ ms) t n) (sym rest) (given-later m ms t (end_of ms t out) g))
            ]
          ]
      | false ↦ λ x. elim (end-reached ms t out) [ inl a ↦ inl a | inr g ↦ inr (given-later m ms t (end_of ms t out) g) ]
    ] refl

-- a record's life runs out later, and none of the moments has struck it, exactly before the end by the moments
pub until_end_of : (ms : List ℕ) (t out now : ℕ) → (now < end_of ms t out) ↔ ((now < out) × (IsStruckBy ms t now → ⊥))
until_end_of ms t out now = (
  λ l. (
    (let by = end-by_life ms t out in omega (arith, by, l)),
    λ k. (let by = end-by_flush ms t out k.flush k.among k.later in let old : k.flush + second ≤ now = k.old in
        absurd (omega (arith, by, old, l))),
  ),
  λ w. elim (end-reached ms t out) [
    | inl e ↦ subst (λ n. now < n) (sym e) w.0
    | inr g ↦ elim (cases_lt now (end_of ms t out)) [
      | inl l ↦ l
      | inr l ↦ absurd (w.1 (record {
        flush = g.moment;
        among = g.among;
        later = g.later;
        old = (let at : g.moment + second ≡ end_of ms t out = g.gives in omega (arith, at, l));
      }))
    ]
  ],
)

-- ---- the end by a part of a set's flush moments, where that has each that came late enough, is that of all hearings

pub IsEnd-by_moments : (heard : List Hearing) (key : Key) (last : Latest) (ms : List ℕ) → IsLast heard key last
    → ((m : ℕ) → has ms m ≡ true → has (flush_moments heard key.set) m ≡ true)
    → ((m : ℕ) → has (flush_moments heard key.set) m ≡ true → last.moment.nanos + second < m → has ms m ≡ true)
    → IsEnd heard key (end_of ms last.moment.nanos (last.moment.nanos + life_of last.ttl))
IsEnd-by_moments heard key last ms is_last heard_of all =
    let t = last.moment.nanos in
    let out = t + life_of last.ttl in
    record {
      last = last;
      is_last = is_last;
      by_life = end-by_life ms t out;
      by_flush = λ f s. end-by_flush ms t out f.moment.nanos
          (all f.moment.nanos (has-from_flush heard key.set f s.among s.of_set) s.later) s.later;
      reached = elim (end-reached ms t out) [
        | inl e ↦ inl e
        | inr g ↦ inr (let f = IsFlushedAt-from_has heard key.set g.moment (heard_of g.moment g.among) in
            let at : f.flush.moment.nanos ≡ g.moment = f.at_it in
            let later : t + second < g.moment = g.later in
            (f.flush, record { among = f.among; of_set = f.of_set; later = omega (arith, at, later) }, ap (λ n. n + second) at ∙ g.gives))
      ];
    }

-- as of a moment no earlier than all, those that came late enough are all kept, as long as none has struck
late_are_kept : (xs : List ℕ) (t now m : ℕ) → newest xs ≤ now → (IsStruckBy xs t now → ⊥) → has xs m ≡ true
    → t + second < m → has (kept xs) m ≡ true
late_are_kept xs t now m early unstruck h l =
    elim (cases_lt (newest xs) (m + second)) [
      | inl recent ↦ has-from_IsKept xs m (record { heard = h; kept = inl recent })
      | inr older ↦ absurd (unstruck (record { flush = m; among = h; later = l; old = omega (arith, older, early) }))
    ]

pub IsEnd-by_kept : (heard : List Hearing) (key : Key) (last : Latest) (now : ℕ) → IsLast heard key last
    → newest (flush_moments heard key.set) ≤ now → (IsStruckBy (flush_moments heard key.set) last.moment.nanos now → ⊥)
    → IsEnd heard key (end_of (kept (flush_moments heard key.set)) last.moment.nanos (last.moment.nanos + life_of last.ttl))
IsEnd-by_kept heard key last now is_last early unstruck = search (rules, IsEnd-by_moments, heard_from_kept, late_are_kept)

-- ---- the laws of ends

-- a record that was heard has an end
pub some_end : (heard : List Hearing) (key : Key) (last : Latest) → IsLast heard key last → (end : ℕ) × IsEnd heard key end
some_end heard key last is_last =
    let fm = flush_moments heard key.set in
    let t = last.moment.nanos in
    (end_of fm t (t + life_of last.ttl), IsEnd-by_moments heard key last fm is_last (λ m h. h) (λ m h l. h))

Strikes-among : (heard others : List Hearing) (key : Key) (t : ℕ) (flush : Hearing) → SameHearings heard others
    → Strikes heard key t flush → Strikes others key t flush
Strikes-among heard others key t flush same strikes =
    record { among = same.into flush strikes.among; of_set = strikes.of_set; later = strikes.later }

-- no end is later than another of the same record among the same hearings
end-no_later : (heard others : List Hearing) (key : Key) (d e : ℕ) → SameHearings heard others → IsEnd heard key d
    → IsEnd others key e → d ≤ e
end-no_later heard others key d e same one two =
    let last : one.last ≡ two.last = IsLast-same heard others same key one.last two.last one.is_last two.is_last in
    let t : one.last.moment.nanos ≡ two.last.moment.nanos = ap (λ (l : Latest). l.moment.nanos) last in
    let out : one.last.moment.nanos + life_of one.last.ttl ≡ two.last.moment.nanos + life_of two.last.ttl =
    ap (λ (l : Latest). l.moment.nanos + life_of l.ttl) last in
    elim two.reached [
      | inl over ↦ (let by : d ≤ one.last.moment.nanos + life_of one.last.ttl = one.by_life in
          let by_two : d ≤ two.last.moment.nanos + life_of two.last.ttl = subst (λ n. d ≤ n) out by in
          subst (λ n. d ≤ n) (sym over) by_two)
      | inr struck ↦ (let strikes = struck.1 in
          let later : two.last.moment.nanos + second < struck.0.moment.nanos = strikes.later in
          let by : d ≤ struck.0.moment.nanos + second = one.by_flush struck.0
          record { among = same.back struck.0 strikes.among; of_set = strikes.of_set; later = omega (arith, t, later) } in
          subst (λ n. d ≤ n) struck.2 by)
    ]

-- the same hearings give a record the same end
pub same_end : (heard others : List Hearing) (key : Key) (d e : ℕ) → SameHearings heard others → IsEnd heard key d
    → IsEnd others key e → d ≡ e
same_end heard others key d e same one two =
    let up = end-no_later heard others key d e same one two in
    let down = end-no_later others heard key e d (same-back heard others same) two one in
    omega (arith, up, down)

-- an end is an end by any list of the same hearings
pub end_among : (heard others : List Hearing) (key : Key) (end : ℕ) → SameHearings heard others → IsEnd heard key end → IsEnd others key end
end_among heard others key end same e = record {
  last = e.last;
  is_last = IsLast-among heard others same key e.last e.is_last;
  by_life = e.by_life;
  by_flush = λ flush strikes. e.by_flush flush
      (Strikes-among others heard key e.last.moment.nanos flush (same-back heard others same) strikes);
  reached = elim e.reached [
    | inl over ↦ inl over
    | inr struck ↦ inr (struck.0, Strikes-among heard others key e.last.moment.nanos struck.0 same struck.1, struck.2)
  ];
}

-- a record is live exactly before its end
pub until_end : (heard : List Hearing) (key : Key) (now end : ℕ) → IsEnd heard key end
    → ((l : Latest) × IsLive heard now key l) ↔ (now < end)
until_end heard key now end e = (
  λ w.
      let same : w.0 ≡ e.last = IsLast-same heard heard (same-itself heard) key w.0 e.last w.1.last e.is_last in
      let live = subst (λ (x : Latest). IsLive heard now key x) same w.1 in
      elim e.reached [
        | inl over ↦ (let running : now < e.last.moment.nanos + life_of e.last.ttl = live.running in omega (arith, over, running))
        | inr struck ↦ elim (cases_lt now end) [
          | inl l ↦ l
          | inr l ↦ absurd (live.unstruck (record {
            flush = struck.0;
            strikes = struck.1;
            old = (let at : struck.0.moment.nanos + second ≡ end = struck.2 in omega (arith, at, l));
          }))
        ]
      ],
  λ l. (
    e.last,
    record {
      last = e.is_last;
      running = (let by : end ≤ e.last.moment.nanos + life_of e.last.ttl = e.by_life in omega (arith, by, l));
      unstruck = λ k. (let by : end ≤ k.flush.moment.nanos + second = e.by_flush k.flush k.strikes in
          let old : k.flush.moment.nanos + second ≤ now = k.old in absurd (omega (arith, by, old, l)));
    },
  ),
)
