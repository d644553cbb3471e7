-- Contents beside messages that are remembered: what they stand for after each step.
use Rattle.std.proofs.Common.{◌≡◌, ℕ, true, List, [], ◌∷◌, ◌++◌, Contains, sym, ap, ◌∙◌, subst, inl, inr, ◌⊎◌, ◌↔◌, arith}
use Rattle.std.proofs.Common.{append-nil, ◌<◌, length, get_or, map, refl, Option, None, Some, IfSome}
use Rattle.std.proofs.lemmas.{List.{length-map}, List.Elements.{Contains-append_left, Contains-append_right, Contains-append_cases}}
use Rattle.mdns_capture.specs.declared.moment.Moment.{Moment}
use Rattle.mdns_message.specs.{declared.hearing.Hearing.{Hearing}, Message.{MessageReads, hearing_of}, RecordAt.{HeardRecord}}
use Rattle.mdns_message.proofs.FaultKindLemmas.{few_hearings}
use Rattle.mdns_join.specs.{Nanos.{nanos_of}, Kept.{has, newest, kept, union}, laws.Kept.{heard_is_kept_or_stale, stale_best}}
use Rattle.mdns_join.specs.laws.Kept.{kept_from_heard, kept_not_stale, heard_from_kept, union_parts, union_left, union_right}
use Rattle.mdns_cache.specs.{Contents.{Contents, StandsFor}, Repeats.{record_heard, at_each, all_at_each, IsHeardAt, IsReadOf, ReadsAs}}
use Rattle.mdns_cache.specs.Repeats.{Remembered, remembered, Recalls, IsRecalled, IsHeld, IsCovered, Covers, StandsWith, ComesAgain}
use Rattle.mdns_cache.proofs.StandsPartLemmas.{Contains-nil, Contains-head, Contains-later, Contains-cases, has-head, has-one}
use Rattle.mdns_cache.proofs.{BetweenLemmas.{has-kept_newest}, RepeatLemmas.{reads-at, moment_in, IsReadOf-heard, heard-IsReadOf}}
use Rattle.mdns_cache.proofs.RepeatLemmas.{heard_parts, heard_each, overtaken, covered-same, covers-more, stands-covered}

pub IfSome-weaker : {X : Type 0} (o : Option X) (P Q : X → Type 0) → ((x : X) → P x → Q x) → IfSome o P → IfSome o Q
IfSome-weaker None P Q f p = tt
IfSome-weaker (Some x) P Q f p = f x p

-- a message has as many hearings at each moment
pub reads_as : (message : List ℕ) (count : ℕ) (t : Moment) (hs : List Hearing) → ((i : ℕ) → get_or message i 0 < 256)
    → MessageReads t message hs → length hs ≡ count → (u : Moment) → ReadsAs u message count
reads_as message count t hs fits reads counted u = record {
  hearings = map (hearing_of u) reads.told;
  reads = reads-at t message hs reads u;
  counted = length-map reads.told (hearing_of u) ∙ sym (ap length reads.heard ∙ length-map reads.told (hearing_of t)) ∙ counted;
  few = omega (arith, few_hearings t message hs fits reads, counted);
}

-- ---- what is kept of moments

kept-covers : (xs : List ℕ) (q : ℕ) → has xs q ≡ true → IsCovered (λ p. has (kept xs) p ≡ true) q
kept-covers xs q h = elim (heard_is_kept_or_stale xs q h) [
  | inl k ↦ inl k
  | inr s ↦ (let b = stale_best xs q s in
      let there = kept_from_heard xs b.0.next b.0.among (kept_not_stale xs b.0.next b.1) in
      inr (overtaken (λ p. has (kept xs) p ≡ true) q b.0.next (newest xs) b.0.after b.0.old there (has-kept_newest xs q h)))
]

-- ---- one more message

recalled_parts : (front back : List Remembered) (x : Remembered) (r : HeardRecord) (q : ℕ)
    → IsRecalled (front ++ x ∷ back) r q ↔ (IsRecalled (front ++ back) r q ⊎ Recalls x r q)
recalled_parts front back x r q = (
  λ m. elim (Contains-append_cases front (x ∷ back) m.0 m.1) [
    | inl a ↦ inl (m.0, Contains-append_left front back m.0 a, m.2)
    | inr b ↦ elim (Contains-cases x back m.0 b) [
      | inl e ↦ inr (subst (λ (y : Remembered). Recalls y r q) (sym e) m.2)
      | inr c ↦ inl (m.0, Contains-append_right front back m.0 c, m.2)
    ]
  ],
  λ o. elim o [
    | inl m ↦ elim (Contains-append_cases front back m.0 m.1) [
      | inl a ↦ (m.0, Contains-append_left front (x ∷ back) m.0 a, m.2)
      | inr b ↦ (m.0, Contains-append_right front (x ∷ back) m.0 (Contains-later x back m.0 b), m.2)
    ]
    | inr h ↦ (x, Contains-append_right front (x ∷ back) x (Contains-head x back), h)
  ],
)

-- ---- each step

-- hearings that are heard at once
pub stands-heard : (c d : Contents) (memory : List Remembered) (heard hs : List Hearing)
    → ((told : List Hearing) → StandsFor c told → StandsFor d (told ++ hs)) → StandsWith c memory heard
    → StandsWith d memory (heard ++ hs)
stands-heard c d memory heard hs step s = record {
  at_once = s.at_once ++ hs;
  stands = step s.at_once s.stands;
  covers = λ r. covers-more _ _ _ _ _ (s.covers r) (heard_parts heard hs r)
      (λ q h. let parts = heard_parts s.at_once hs r q in grind arith)
      (λ q h. let parts = heard_parts s.at_once hs r q in inl (grind arith));
}

-- hearings that are remembered
stands-kept : (c : Contents) (old new : List Remembered) (heard hs : List Hearing)
    → ((r : HeardRecord) → Covers (IsRecalled new r) (λ q. IsRecalled old r q ⊎ IsHeardAt hs r q)) → StandsWith c old heard
    → StandsWith c new (heard ++ hs)
stands-kept c old new heard hs kept s = record {
  at_once = s.at_once;
  stands = s.stands;
  covers = λ r.
      let up : (q : ℕ) → IsRecalled old r q ⊎ IsHeardAt hs r q → IsCovered (IsHeld s.at_once new r) q = λ q h.
      covered-same (IsRecalled new r) (IsHeld s.at_once new r) (λ p m. inr m) q ((kept r).all q h) in
      covers-more _ _ _ _ _ (s.covers r) (heard_parts heard hs r) (λ q h. let from = (kept r).into q in grind arith)
      (λ q h. elim h [ inl o ↦ elim o [ inl a ↦ inl (inl a) | inr m ↦ up q (inl m) ] | inr a ↦ up q (inr a) ]);
}

module _ (t : Moment) (bytes : List ℕ) (hs : List Hearing) (reads : MessageReads t bytes hs) where
  -- the message's hearings are those of its records at its moment
  read_at : (r : HeardRecord) (q : ℕ) → IsHeardAt hs r q ↔ Recalls (remembered bytes (t.nanos ∷ [])) r q
  read_at r q = (
    λ a. record {
      read = subst (IsReadOf bytes) a.2 (IsReadOf-heard t bytes hs reads a.0 a.1);
      kept = subst (λ p. has (t.nanos ∷ []) p ≡ true)
          (ap (λ (u : Moment). u.nanos) (moment_in t bytes hs reads a.0 a.1) ∙ a.3) (has-head t.nanos []);
    },
    λ h. (hearing_of t r, heard-IsReadOf t bytes hs reads r h.read, refl, has-one t.nanos q h.kept),
  )

  -- a message that is remembered
  pub stands-remembered : (c : Contents) (memory : List Remembered) (heard : List Hearing) → StandsWith c memory heard
      → StandsWith c (memory ++ remembered bytes (t.nanos ∷ []) ∷ []) (heard ++ hs)
  stands-remembered c memory heard s =
      let one = remembered bytes (t.nanos ∷ []) in
      let parts = λ (r : HeardRecord) (q : ℕ). rw append-nil at (recalled_parts memory [] one r q) in
      stands-kept c memory (memory ++ one ∷ []) heard hs
      (λ r. record {
        into = λ q m. let two = parts r q in let at = read_at r q in grind arith;
        all = λ q o. let two = parts r q in let at = read_at r q in inl (grind arith);
      }) s

  -- a message that comes again
  pub stands-again : (c : Contents) (old new : List Remembered) (heard : List Hearing) → ComesAgain old new bytes t
      → StandsWith c old heard → StandsWith c new (heard ++ hs)
  stands-again c old new heard a s =
      let both = union a.moments (t.nanos ∷ []) in
      let before = recalled_parts a.front a.back (remembered bytes a.moments) in
      let after = recalled_parts a.front a.back (remembered bytes (kept both)) in
      let next = a.front ++ remembered bytes (kept both) ∷ a.back in
      let covered : (r : HeardRecord) (q : ℕ) → IsReadOf bytes r → has both q ≡ true → IsCovered (IsRecalled next r) q =
      λ r q o k. covered-same (λ p. has (kept both) p ≡ true) (IsRecalled next r)
      (λ p e. (after r p).1 (inr (record { read = o; kept = e }))) q (kept-covers both q k) in
      rw a.now
      (stands-kept c (a.front ++ remembered bytes a.moments ∷ a.back) next heard hs
      (λ r. record {
        into = λ q m. elim ((after r q).0 m) [
          | inl n ↦ inl ((before r q).1 (inl n))
          | inr k ↦ elim (union_parts a.moments (t.nanos ∷ []) q (heard_from_kept both q k.kept)) [
            | inl e ↦ inl ((before r q).1 (inr (record { read = k.read; kept = e })))
            | inr e ↦ inr ((read_at r q).1 (record { read = k.read; kept = e }))
          ]
        ];
        all = λ q o. elim o [
          | inl m ↦ elim ((before r q).0 m) [
            | inl n ↦ inl ((after r q).1 (inl n))
            | inr k ↦ covered r q k.read (union_left a.moments (t.nanos ∷ []) q k.kept)
          ]
          | inr x ↦ (let k = (read_at r q).0 x in covered r q k.read (union_right a.moments (t.nanos ∷ []) q k.kept))
        ];
      })
      (rw a.was at s))

-- ---- the end

-- a message was heard at its moments, and isn't remembered any longer
pub stands-moved : (c d : Contents) (message : Remembered) (memory : List Remembered) (heard now : List Hearing)
    → ((told : List Hearing) → StandsFor c told → StandsFor d (told ++ now))
    → ((r : HeardRecord) (q : ℕ) → IsHeardAt now r q ↔ Recalls message r q)
    → StandsWith c (message ∷ memory) heard → StandsWith d memory heard
stands-moved c d message memory heard now step same s =
    let before = recalled_parts [] memory message in
    let after = heard_parts s.at_once now in
    record {
      at_once = s.at_once ++ now;
      stands = step s.at_once s.stands;
      covers = λ r. covers-more _ (IsHeardAt heard r) (λ q. ⊥) _ _ (s.covers r)
          (λ q. (λ h. inl h, λ o. elim o [ inl h ↦ h | inr n ↦ absurd n ]))
          (λ q h. let is = same r q in let from = before r q in let to = after r q in grind arith)
          (λ q o. inl (elim o [
            | inl h ↦ elim h [
              | inl a ↦ inl ((after r q).1 (inl a))
              | inr m ↦ elim ((before r q).0 m) [ inl n ↦ inr n | inr k ↦ inl ((after r q).1 (inr ((same r q).1 k))) ]
            ]
            | inr n ↦ absurd n
          ]));
    }

-- nothing is remembered any longer
pub stands-whole : (c : Contents) (heard : List Hearing) → StandsWith c [] heard → StandsFor c heard
stands-whole c heard s = stands-covered s.at_once heard
    (λ r. record {
      into = λ q a. (s.covers r).into q (inl a);
      all = λ q a. covered-same (IsHeld s.at_once [] r) (IsHeardAt s.at_once r)
          (λ p h. elim h [ inl x ↦ x | inr m ↦ absurd (Contains-nil m.0 m.1) ]) q ((s.covers r).all q a);
    }) c s.stands

all_parts : (ts : List Moment) (hs : List Hearing) (r : HeardRecord) (q : ℕ)
    → IsHeardAt (all_at_each ts hs) r q ↔ (((h : Hearing) × Contains hs h × (record_heard h ≡ r)) × (has (nanos_of ts) q ≡ true))
all_parts ts [] r q = (λ a. absurd (Contains-nil a.0 a.1), λ w. absurd (Contains-nil w.0.0 w.0.1))
all_parts ts (x ∷ xs) r q =
    let parts = heard_parts (at_each ts x) (all_at_each ts xs) r q in
    let first = heard_each ts x r q in
    let rest = all_parts ts xs r q in (
      λ a. elim (parts.0 a) [
        | inl b ↦ (let w = first.0 b in ((x, Contains-head x xs, w.0), w.1))
        | inr b ↦ (let w = rest.0 b in ((w.0.0, Contains-later x xs w.0.0 w.0.1, w.0.2), w.1))
      ],
      λ w. parts.1 (elim (Contains-cases x xs w.0.0 w.0.1) [
        | inl e ↦ inl (first.1 (ap record_heard e ∙ w.0.2, w.1))
        | inr m ↦ inr (rest.1 ((w.0.0, m, w.0.2), w.1))
      ]),
    )

-- a message that was read at any moment, and was heard at each of its own
pub all_heard : (message : Remembered) (t : Moment) (hs : List Hearing) (ts : List Moment) → MessageReads t message.bytes hs
    → nanos_of ts ≡ message.moments → (r : HeardRecord) (q : ℕ) → IsHeardAt (all_at_each ts hs) r q ↔ Recalls message r q
all_heard message t hs ts reads are r q = (
  λ a. let w = (all_parts ts hs r q).0 a in
      let read = subst (IsReadOf message.bytes) w.0.2 (IsReadOf-heard t message.bytes hs reads w.0.0 w.0.1) in
      record { read = read; kept = rw are at w.1 },
  λ k. (all_parts ts hs r q).1 ((hearing_of t r, heard-IsReadOf t message.bytes hs reads r k.read, refl), rw are k.kept),
)

-- WHAT FUNCTIONS ARE PROVED BY

pub ruleset for_hear = (stands-remembered, stands-heard)
