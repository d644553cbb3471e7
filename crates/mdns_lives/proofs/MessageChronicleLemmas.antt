-- A chronicle beside messages that are remembered: what they record after each step.
use Rattle.std.proofs.Common.{◌≡◌, ◌↔◌, ◌⊎◌, ℕ, zero, suc, ◌+◌, ◌<◌, ◌≤◌, List, [], ◌∷◌, ◌++◌}
use Rattle.std.proofs.Common.{Contains, refl, sym, ap, ◌∙◌, subst, inl, inr, arith, length, get_or, set, drop, append-nil}
use Rattle.std.proofs.{Math.Seq.{drop-append_seam, drop-append-add}, lemmas.List.{drop_all}, lemmas.List.Elements.{Contains-append_left}}
use Rattle.std.proofs.lemmas.List.Elements.{Contains-append_right, Contains-append_cases, Contains-push, Contains-push_cases}
use Rattle.std.specs.List.{HoldsAt}
use Rattle.mdns_capture.specs.declared.moment.Moment.{Moment}
use Rattle.mdns_message.specs.{declared.hearing.Hearing.{Hearing}, Message.{MessageReads}}
use Rattle.mdns_cache.specs.Repeats.{Remembered, remembered, ReadsAs}
use Rattle.mdns_cache.proofs.StandsPartLemmas.{Contains-nil, Contains-head, Contains-later, Contains-cases}
use Rattle.mdns_lives.specs.Chronicle.{Accounts, Chronicles}
use Rattle.mdns_lives.specs.MessageChronicle.{Awaited, awaited, messages_with, IsHearingAt, IsAwaited, RecordsAll, ChroniclesAt}
use Rattle.mdns_lives.proofs.HearingLemmas.{ReadsOnce, IsHearingAt-read, read-IsHearingAt, chronicles-same}

-- ---- what is recorded

-- nothing is remembered
pub records-none : (c : Accounts) → Chronicles c [] → RecordsAll c [] []
records-none c s = grind (arith, Contains-nil)

-- hearings that are added at once
pub records-heard : (c d : Accounts) (memory : List Awaited) (heard hs : List Hearing)
    → ((told : List Hearing) → Chronicles c told → Chronicles d (told ++ hs)) → RecordsAll c memory heard
    → RecordsAll d memory (heard ++ hs)
records-heard c d memory heard hs step s = record {
  told = s.told ++ hs;
  chronicles = step s.told s.chronicles;
  exactly = λ h. (
    λ m. elim (Contains-append_cases heard hs h m) [
      | inl a ↦ elim ((s.exactly h).0 a) [ inl x ↦ inl (Contains-append_left s.told hs h x) | inr w ↦ inr w ]
      | inr b ↦ inl (Contains-append_right s.told hs h b)
    ],
    λ w. elim w [
      | inl x ↦ elim (Contains-append_cases s.told hs h x) [
        | inl a ↦ Contains-append_left heard hs h ((s.exactly h).1 (inl a))
        | inr b ↦ Contains-append_right heard hs h b
      ]
      | inr a ↦ Contains-append_left heard hs h ((s.exactly h).1 (inr a))
    ],
  );
}

-- hearings that wait with those before
records-waits : (c : Accounts) (old new : List Awaited) (heard hs : List Hearing)
    → ((h : Hearing) → IsAwaited new h ↔ (IsAwaited old h ⊎ Contains hs h)) → RecordsAll c old heard
    → RecordsAll c new (heard ++ hs)
records-waits c old new heard hs waits s = record {
  told = s.told;
  chronicles = s.chronicles;
  exactly = λ h. (
    λ m. elim (Contains-append_cases heard hs h m) [
      | inl a ↦ elim ((s.exactly h).0 a) [ inl x ↦ inl x | inr w ↦ inr ((waits h).1 (inl w)) ]
      | inr b ↦ inr ((waits h).1 (inr b))
    ],
    λ w. elim w [
      | inl x ↦ Contains-append_left heard hs h ((s.exactly h).1 (inl x))
      | inr a ↦ elim ((waits h).0 a) [
        | inl o ↦ Contains-append_left heard hs h ((s.exactly h).1 (inr o))
        | inr b ↦ Contains-append_right heard hs h b
      ]
    ],
  );
}

-- hearings that waited are added
records-told : (c d : Accounts) (old new : List Awaited) (message : List ℕ) (moments : List Moment) (heard : List Hearing)
    → ((h : Hearing) → IsAwaited old h ↔ (IsHearingAt message moments h ⊎ IsAwaited new h))
    → ((told : List Hearing) → Chronicles c told → ChroniclesAt d message moments told) → RecordsAll c old heard → RecordsAll d new heard
records-told c d old new message moments heard waits step s =
    let w = step s.told s.chronicles in
    record {
      told = s.told ++ w.later;
      chronicles = w.chronicles;
      exactly = λ h. (
        λ m. elim ((s.exactly h).0 m) [
          | inl x ↦ inl (Contains-append_left s.told w.later h x)
          | inr a ↦ elim ((waits h).0 a) [
            | inl o ↦ inl (Contains-append_right s.told w.later h ((w.exactly h).1 o))
            | inr n ↦ inr n
          ]
        ],
        λ t. elim t [
          | inl x ↦ elim (Contains-append_cases s.told w.later h x) [
            | inl a ↦ (s.exactly h).1 (inl a)
            | inr b ↦ (s.exactly h).1 (inr ((waits h).1 (inl ((w.exactly h).0 b))))
          ]
          | inr n ↦ (s.exactly h).1 (inr ((waits h).1 (inr n)))
        ],
      );
    }

-- nothing waits any longer
pub records-whole : (c : Accounts) (heard : List Hearing) → RecordsAll c [] heard → Chronicles c heard
records-whole c heard s = chronicles-same s.told heard
    (record {
      into = λ h m. (s.exactly h).1 (inl m);
      back = λ h m. elim ((s.exactly h).0 m) [ inl x ↦ x | inr a ↦ absurd (Contains-nil a.message a.among) ];
    }) c s.chronicles

-- ---- one message among the others

awaits-here : (front back : List Awaited) (x : Awaited) (h : Hearing) → IsHearingAt x.bytes x.moments h
    → IsAwaited (front ++ x ∷ back) h
awaits-here front back x h w = grind (arith, Contains-append_right, Contains-head)

awaits-cases : (front back : List Awaited) (x y : Awaited) (h : Hearing) → IsAwaited (front ++ x ∷ back) h
    → IsHearingAt x.bytes x.moments h ⊎ IsAwaited (front ++ y ∷ back) h
awaits-cases front back x y h w = elim (Contains-append_cases front (x ∷ back) w.message w.among) [
  | inl a ↦ inr (record { message = w.message; among = Contains-append_left front (y ∷ back) w.message a; hears = w.hears })
  | inr b ↦ grind (arith, Contains-cases, Contains-append_right, Contains-later)
]

module _ (once : ReadsOnce) (c : Accounts) (bytes : List ℕ) (t : Moment) (hs : List Hearing) (reads : MessageReads t bytes hs) where
  more_moments : (ts : List Moment) (h : Hearing) → IsHearingAt bytes (ts ++ t ∷ []) h ↔ (IsHearingAt bytes ts h ⊎ Contains hs h)
  more_moments ts h = (
    λ w. elim (Contains-push_cases ts t h.moment w.came) [
      | inl a ↦ inl (record { hearings = w.hearings; reads = w.reads; among = w.among; came = a })
      | inr e ↦ inr (read-IsHearingAt t bytes hs reads once (ts ++ t ∷ []) h w e)
    ],
    λ w. elim w [
      | inl a ↦ grind (arith, Contains-append_left)
      | inr m ↦ IsHearingAt-read t bytes hs reads (ts ++ t ∷ []) (Contains-push ts t) h m
    ],
  )

  -- a message that comes again
  pub records-again : (front back : List Awaited) (ts : List Moment) (heard : List Hearing)
      → RecordsAll c (front ++ awaited bytes ts ∷ back) heard → RecordsAll c (front ++ awaited bytes (ts ++ t ∷ []) ∷ back) (heard ++ hs)
  records-again front back ts heard =
      let x = awaited bytes ts in
      let y = awaited bytes (ts ++ t ∷ []) in
      records-waits c (front ++ x ∷ back) (front ++ y ∷ back) heard hs (λ h. (
        λ w. elim (awaits-cases front back y x h w) [
          | inl a ↦ elim ((more_moments ts h).0 a) [ inl o ↦ inl (awaits-here front back x h o) | inr m ↦ inr m ]
          | inr o ↦ inl o
        ],
        λ w. elim w [
          | inl o ↦ elim (awaits-cases front back x y h o) [
            | inl a ↦ awaits-here front back y h ((more_moments ts h).1 (inl a))
            | inr n ↦ n
          ]
          | inr m ↦ awaits-here front back y h ((more_moments ts h).1 (inr m))
        ],
      ))

  -- a message that is remembered
  pub records-remembered : (memory : List Awaited) (heard : List Hearing) → RecordsAll c memory heard
      → RecordsAll c (memory ++ awaited bytes (t ∷ []) ∷ []) (heard ++ hs)
  records-remembered memory heard =
      let x = awaited bytes (t ∷ []) in
      records-waits c memory (memory ++ x ∷ []) heard hs (λ h. (
        λ w. elim (Contains-push_cases memory x w.message w.among) [
          | inl o ↦ inl (record { message = w.message; among = o; hears = w.hears })
          | inr e ↦ elim ((more_moments [] h).0 (subst (λ (m : Awaited). IsHearingAt m.bytes m.moments h) (sym e) w.hears)) [
            | inl o ↦ absurd (Contains-nil h.moment o.came)
            | inr m ↦ inr m
          ]
        ],
        λ w. elim w [
          | inl o ↦ record { message = o.message; among = Contains-append_left memory (x ∷ []) o.message o.among; hears = o.hears }
          | inr m ↦ awaits-here memory [] x h ((more_moments [] h).1 (inr m))
        ],
      ))

-- a message that was heard at its moments
module _ (c d : Accounts) (bytes : List ℕ) (ts : List Moment)
    (step : (told : List Hearing) → Chronicles c told → ChroniclesAt d bytes ts told) where
  -- waits at none
  pub records-cleared : (front back : List Awaited) (heard : List Hearing) → RecordsAll c (front ++ awaited bytes ts ∷ back) heard
      → RecordsAll d (front ++ awaited bytes [] ∷ back) heard
  records-cleared front back heard =
      let x = awaited bytes ts in
      let y = awaited bytes [] in
      records-told c d (front ++ x ∷ back) (front ++ y ∷ back) bytes ts heard (λ h. (
        λ w. awaits-cases front back x y h w,
        λ w. elim w [
          | inl a ↦ awaits-here front back x h a
          | inr n ↦ elim (awaits-cases front back y x h n) [ inl a ↦ absurd (Contains-nil h.moment a.came) | inr o ↦ o ]
        ],
      )) step

  -- or isn't remembered any longer
  pub records-without : (memory : List Awaited) (heard : List Hearing) → RecordsAll c (awaited bytes ts ∷ memory) heard
      → RecordsAll d memory heard
  records-without memory heard =
      let x = awaited bytes ts in
      records-told c d (x ∷ memory) memory bytes ts heard (λ h. (
        λ w. elim (Contains-cases x memory w.message w.among) [
          | inl e ↦ inl (subst (λ (m : Awaited). IsHearingAt m.bytes m.moments h) (sym e) w.hears)
          | inr r ↦ inr (record { message = w.message; among = r; hears = w.hears })
        ],
        λ w. elim w [
          | inl a ↦ record { message = x; among = Contains-head x memory; hears = a }
          | inr n ↦ record { message = n.message; among = Contains-later x memory n.message n.among; hears = n.hears }
        ],
      )) step

-- ---- messages at their places

-- the message at a place, and the others, whatever its moments are
pub record IsPlaced (messages : List Remembered) (waiting : List (List Moment)) (place : ℕ) (bytes : List ℕ) (ts : List Moment)
    : Type 0 where
  pub front : List Awaited
  pub back : List Awaited
  pub there : length front ≡ place
  pub is : messages_with messages waiting ≡ front ++ awaited bytes ts ∷ back
  pub other : (us : List Moment) → messages_with messages (set waiting place us) ≡ front ++ awaited bytes us ∷ back

pub is_placed : (messages : List Remembered) (waiting : List (List Moment)) (place : ℕ) (bytes : List ℕ) (ts : List Moment)
    → place < length messages → HoldsAt (λ (m : Remembered). m.bytes ≡ bytes) messages place → place < length waiting
    → ts ≡ get_or waiting place ts → IsPlaced messages waiting place bytes ts
unfolding messages_with
is_placed [] waiting place bytes ts l b k e = absurd (omega (arith, l))
is_placed (m ∷ ms) [] place bytes ts l b k e = absurd (omega (arith, k))
is_placed (m ∷ ms) (u ∷ us) zero bytes ts l b k e = record {
  front = [];
  back = messages_with ms us;
  there = refl;
  is = ap (λ (xs : List ℕ). awaited xs u ∷ messages_with ms us) (b m)
      ∙ ap (λ (xs : List Moment). awaited bytes xs ∷ messages_with ms us) (sym e);
  other = λ vs. ap (λ (xs : List ℕ). awaited xs vs ∷ messages_with ms us) (b m);
}
is_placed (m ∷ ms) (u ∷ us) (suc place) bytes ts l b k e =
    let w = is_placed ms us place bytes ts (omega (arith, l)) b (omega (arith, k)) e in
    record {
      front = awaited m.bytes u ∷ w.front;
      back = w.back;
      there = ap suc w.there;
      is = ap (λ (xs : List Awaited). awaited m.bytes u ∷ xs) w.is;
      other = λ vs. ap (λ (xs : List Awaited). awaited m.bytes u ∷ xs) (w.other vs);
    }

-- a message that is remembered takes the next place
pub messages_with_push : (messages : List Remembered) (waiting : List (List Moment)) (m : Remembered) (ts : List Moment)
    → length waiting ≡ length messages
    → messages_with (messages ++ m ∷ []) (waiting ++ ts ∷ []) ≡ messages_with messages waiting ++ awaited m.bytes ts ∷ []
unfolding messages_with
messages_with_push [] [] m ts e = refl
messages_with_push [] (u ∷ us) m ts e = absurd (omega (arith, e))
messages_with_push (x ∷ ms) [] m ts e = absurd (omega (arith, e))
messages_with_push (x ∷ ms) (u ∷ us) m ts e = grind (arith, messages_with_push ms us m ts (omega (arith, e)))

few_messages : (messages : List Remembered) (waiting : List (List Moment))
    → (length (messages_with messages waiting) ≤ length messages) × (length (messages_with messages waiting) ≤ length waiting)
unfolding messages_with
few_messages [] waiting = (omega arith, omega arith)
few_messages (m ∷ ms) [] = (omega arith, omega arith)
few_messages (m ∷ ms) (u ∷ us) = let w = few_messages ms us in (omega (arith, w.0), omega (arith, w.1))

-- past the last place
pub records-past : (c : Accounts) (messages : List Remembered) (waiting : List (List Moment)) (place : ℕ) (heard : List Hearing)
    → (length messages ≤ place) ⊎ (length waiting ≤ place) → RecordsAll c (drop place (messages_with messages waiting)) heard
    → RecordsAll c (drop (place + 1) (messages_with messages waiting)) heard
records-past c messages waiting place heard past = grind (arith, few_messages, drop_all)

-- the message at a place was heard at its moments
pub records-placed : (c d : Accounts) (messages : List Remembered) (waiting : List (List Moment)) (place : ℕ) (bytes : List ℕ)
    (ts : List Moment) → IsPlaced messages waiting place bytes ts
    → ((told : List Hearing) → Chronicles c told → ChroniclesAt d bytes ts told) → (heard : List Hearing)
    → RecordsAll c (drop place (messages_with messages waiting)) heard
    → RecordsAll d (drop (place + 1) (messages_with messages waiting)) heard
records-placed c d messages waiting place bytes ts w step heard s = grind (arith, drop-append_seam, drop-append-add, records-without)

-- past all places nothing waits
pub records-ended : (c : Accounts) (messages : List Remembered) (waiting : List (List Moment)) (place : ℕ) (heard : List Hearing)
    → length waiting ≤ place → RecordsAll c (drop place (messages_with messages waiting)) heard → Chronicles c heard
records-ended c messages waiting place heard past s =
    let few = few_messages messages waiting in
    records-whole c heard
    (subst (λ (ys : List Awaited). RecordsAll c ys heard)
    (drop_all place (messages_with messages waiting) (omega (arith, past, few.1))) s)

-- no moment waits
pub chronicles-no_moment : (c : Accounts) (message : List ℕ) (ts : List Moment) (before : List Hearing) → ts ≡ [] → Chronicles c before
    → ChroniclesAt c message ts before
chronicles-no_moment c message ts before none s = grind (arith, append-nil, Contains-nil)

-- ---- the steps, by the places of messages

pub records_new : (c : Accounts) (messages : List Remembered) (waiting : List (List Moment)) → messages ≡ [] → Chronicles c []
    → RecordsAll c (messages_with messages waiting) []
unfolding messages_with
records_new c messages waiting none s = grind (arith, records-none)

-- the message at a place has so many hearings
pub reads-found : (messages : List Remembered) (place hearings : ℕ) (message : List ℕ) (t : Moment)
    → HoldsAt (λ (m : Remembered). m.bytes ≡ message) messages place
    → HoldsAt (λ (m : Remembered). ReadsAs t m.bytes hearings) messages place → ReadsAs t message hearings
reads-found messages place hearings message t found reads =
    let any = remembered [] [] in
    subst (λ (bytes : List ℕ). ReadsAs t bytes hearings) (found any) (reads any)

-- it came again
pub records-came : ReadsOnce → (c : Accounts) (messages : List Remembered) (waiting : List (List Moment)) (place : ℕ) (bytes : List ℕ)
    (ts us : List Moment) (t : Moment) (hs : List Hearing) → MessageReads t bytes hs → IsPlaced messages waiting place bytes ts
    → us ≡ ts ++ t ∷ [] → (heard : List Hearing) → RecordsAll c (messages_with messages waiting) heard
    → RecordsAll c (messages_with messages (set waiting place us)) (heard ++ hs)
records-came once c messages waiting place bytes ts us t hs reads w more heard s = grind (arith, records-again)

-- it was heard at its moments
pub records-emptied : (c d : Accounts) (messages : List Remembered) (waiting : List (List Moment)) (place : ℕ) (bytes : List ℕ)
    (ts us : List Moment) → IsPlaced messages waiting place bytes ts → us ≡ []
    → ((told : List Hearing) → Chronicles c told → ChroniclesAt d bytes ts told) → (heard : List Hearing)
    → RecordsAll c (messages_with messages waiting) heard → RecordsAll d (messages_with messages (set waiting place us)) heard
records-emptied c d messages waiting place bytes ts us w none step heard s = grind (arith, records-cleared)

-- WHAT FUNCTIONS ARE PROVED BY

pub ruleset for_hear = (records-heard, records-remembered)

pub ruleset for_hear_at_each = (chronicles-no_moment)

pub ruleset for_hear_place = (is_placed, records-past, records-placed)
