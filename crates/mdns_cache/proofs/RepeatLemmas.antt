-- Hearings that differ only in their moments: those of a message, and those that contents don't need.
use Rattle.std.proofs.Common.{rules, ◌≡◌, ◌≢◌, ℕ, ◌≤◌, true, ◌==◌, List, [], ◌∷◌, Option, None, Some, Contains}
use Rattle.std.proofs.Common.{◌⊎◌, ◌↔◌, ◌+◌, ◌<◌, ◌++◌, MatchOption, refl, ap, ◌∙◌, subst, inl, inr, arith, map}
use Rattle.std.specs.declared.cmp.Ordering.TheVariants.{Greater}
use Rattle.std.proofs.lemmas.{Bool.{false≢true, or_cases, or_left, or_right, eqb-true, eq-eqb}, Cmp.{tied_itself}}
use Rattle.std.proofs.lemmas.List.Elements.{Contains-append_left, Contains-append_right, Contains-append_cases}
use Rattle.mdns_capture.specs.{Limits.{second}, declared.moment.Moment.{Moment}}
use Rattle.mdns_message.specs.{declared.hearing.Hearing.{Hearing}, declared.key.Key.{Key}, RecordSet.{RecordSet}}
use Rattle.mdns_message.specs.{Message.{MessageReads, hearing_of}, RecordAt.{HeardRecord}}
use Rattle.mdns_message.proofs.MessageLawLemmas.{one_hearing_list}
use Rattle.mdns_join.specs.{declared.latest.Latest.{Latest}, Latest.{latest_cmp, latest_of}, laws.Latest.{latest_cmp-total, moment-same}}
use Rattle.mdns_join.specs.{Nanos.{nanos_of}, Kept.{has}, laws.Kept.{has-le-newest}}
use Rattle.mdns_cache.specs.{Live.{IsUnheard, IsLast, IsNewest, flush_moments}, Contents.{Contents, StandsFor, kept_of}}
use Rattle.mdns_cache.specs.Repeats.{record_heard, at_each, IsHeardAt, IsReadOf, IsOvertaken, IsCovered, Covers}
use Rattle.mdns_cache.proofs.StandsPartLemmas.{Contains-nil, Contains-head, Contains-later, Contains-cases, Contains-map, from_map}
use Rattle.mdns_cache.proofs.StandsPartLemmas.{latest-upto, reverse-greater, IsLast-in, kept_of-between, IsFlushedAt-in}
use Rattle.mdns_cache.proofs.{StandsPartLemmas.{IsFlushedAt-from_has, has-from_flushed}, BetweenLemmas.{not_later}}

-- ---- the records of a message

module _ (t : Moment) (message : List ℕ) (hs : List Hearing) (reads : MessageReads t message hs) where
  -- reading doesn't look at the moment
  pub reads-at : (u : Moment) → MessageReads u message (map (hearing_of u) reads.told)
  reads-at u = record { header = reads.header; told = reads.told; next = reads.next; sections = reads.sections; heard = refl }

  key_of_last : (h : Hearing) → Contains hs h → (r : HeardRecord) × (hearing_of t r ≡ h) × Contains reads.told r
  key_of_last h m = from_map (hearing_of t) reads.told h (subst (λ (xs : List Hearing). Contains xs h) reads.heard m)

  -- the hearings of a message are at its moment
  pub moment_in : (h : Hearing) → Contains hs h → t ≡ h.moment
  moment_in h m = ap (λ (x : Hearing). x.moment) (key_of_last h m).1

  pub IsReadOf-heard : (h : Hearing) → Contains hs h → IsReadOf message (record_heard h)
  IsReadOf-heard h m u = let f = key_of_last h m in (
    map (hearing_of u) reads.told,
    reads-at u,
    subst (λ (x : Hearing). Contains (map (hearing_of u) reads.told) (hearing_of u (record_heard x))) f.1
        (Contains-map (hearing_of u) reads.told f.0 f.2),
  )

  pub heard-IsReadOf : (r : HeardRecord) → IsReadOf message r → Contains hs (hearing_of t r)
  heard-IsReadOf r o = let f = o t in
      subst (λ (xs : List Hearing). Contains xs (hearing_of t r)) (one_hearing_list t message f.0 hs f.1 reads) f.2

-- ---- hearings at their moments

pub nothing : (xs : List Hearing) → ((h : Hearing) → Contains xs h → ⊥) → xs ≡ []
nothing [] n = refl
nothing (h ∷ xs) n = absurd (n h (Contains-head h xs))

pub itself_heard : (hs : List Hearing) (r : HeardRecord) (t : Moment) → IsHeardAt hs r t.nanos → Contains hs (hearing_of t r)
itself_heard hs r t a =
    let same : a.0 ≡ hearing_of t r = λ i. hearing_of (moment-same a.0.moment t a.3 i) (a.2 i) in
    subst (Contains hs) same a.1

pub heard_parts : (xs ys : List Hearing) (r : HeardRecord) (q : ℕ)
    → IsHeardAt (xs ++ ys) r q ↔ (IsHeardAt xs r q ⊎ IsHeardAt ys r q)
heard_parts xs ys r q = (
  λ a. elim (Contains-append_cases xs ys a.0 a.1) [ inl m ↦ inl (a.0, m, a.2, a.3) | inr m ↦ inr (a.0, m, a.2, a.3) ],
  λ o. elim o [
    | inl a ↦ (a.0, Contains-append_left xs ys a.0 a.1, a.2, a.3)
    | inr a ↦ (a.0, Contains-append_right xs ys a.0 a.1, a.2, a.3)
  ],
)

-- a hearing at each of some moments
pub heard_each : (ts : List Moment) (h : Hearing) (r : HeardRecord) (q : ℕ)
    → IsHeardAt (at_each ts h) r q ↔ ((record_heard h ≡ r) × (has (nanos_of ts) q ≡ true))
heard_each [] h r q = (λ a. absurd (Contains-nil a.0 a.1), λ w. absurd (false≢true w.1))
heard_each (t ∷ ts) h r q =
    let first = hearing_of t (record_heard h) in
    let rest = heard_each ts h r q in (
      λ a. elim (Contains-cases first (at_each ts h) a.0 a.1) [
        | inl e ↦ (
          ap record_heard e ∙ a.2,
          or_left (t.nanos == q) (has (nanos_of ts) q) (eq-eqb t.nanos q (ap (λ (g : Hearing). g.moment.nanos) e ∙ a.3)),
        )
        | inr m ↦ (let w = rest.0 (a.0, m, a.2, a.3) in (w.0, or_right (t.nanos == q) (has (nanos_of ts) q) w.1))
      ],
      λ w. elim (or_cases (t.nanos == q) (has (nanos_of ts) q) w.1) [
        | inl e ↦ (first, Contains-head first (at_each ts h), w.0, eqb-true t.nanos q e)
        | inr e ↦ (let a = rest.1 (w.0, e) in (a.0, Contains-later first (at_each ts h) a.0 a.1, a.2, a.3))
      ],
    )

-- ---- moments that aren't needed

pub overtaken : (At : ℕ → Type 0) (q next newest : ℕ) → q < next → next + second ≤ newest → At next → At newest → IsOvertaken At q
overtaken At q next newest after old at_next at_newest = grind arith

-- a moment that isn't earlier
no_less : (At : ℕ → Type 0) (q : ℕ) → IsCovered At q → (p : ℕ) × At p × (q ≤ p)
no_less At q (inl a) = (q, a, omega arith)
no_less At q (inr o) = (o.newest, o.at_newest, omega (arith, o.after, o.old))

module _ (At By : ℕ → Type 0) (into : (p : ℕ) → At p → IsCovered By p) where
  -- what is covered by moments that are covered is covered
  pub covered-through : (q : ℕ) → IsCovered At q → IsCovered By q
  covered-through q (inl a) = into q a
  covered-through q (inr o) =
      grind (arith, no_less By o.newest (into o.newest o.at_newest), into o.newest o.at_newest, into o.next o.at_next, overtaken)

pub covered-same : (At By : ℕ → Type 0) → ((p : ℕ) → At p → By p) → (q : ℕ) → IsCovered At q → IsCovered By q
covered-same At By f q c = covered-through At By (λ p a. inl (f p a)) q c

-- more moments were heard, and what is held after covers what was held and these
pub covers-more : (Held Heard More Held_after Heard_after : ℕ → Type 0) → Covers Held Heard
    → ((q : ℕ) → Heard_after q ↔ (Heard q ⊎ More q)) → ((q : ℕ) → Held_after q → Held q ⊎ More q)
    → ((q : ℕ) → Held q ⊎ More q → IsCovered Held_after q) → Covers Held_after Heard_after
covers-more Held Heard More Held_after Heard_after covers same into all = grind (arith, into, covered-through)

-- a hearing that is as late or earlier doesn't exceed the other
pub no_greater : (a b : Latest) → a.moment.nanos ≤ b.moment.nanos → a.ttl ≡ b.ttl → a.resource ≡ b.resource
    → latest_cmp a b ≢ Greater
no_greater a b l p q g = search (rules, not_later, reverse-greater, latest_cmp-total, moment-same, tied_itself)

module _ (gs hs : List Hearing) (covers : (r : HeardRecord) → Covers (IsHeardAt gs r) (IsHeardAt hs r)) where
  into : (h : Hearing) → Contains gs h → Contains hs h
  into h m = itself_heard hs (record_heard h) h.moment ((covers (record_heard h)).into h.moment.nanos (h, m, refl, refl))

  covered : (h : Hearing) → Contains hs h → IsCovered (IsHeardAt gs (record_heard h)) h.moment.nanos
  covered h m = (covers (record_heard h)).all h.moment.nanos (h, m, refl, refl)

  later_hearing : (h : Hearing) → Contains hs h
      → (t : Moment) × Contains gs (hearing_of t (record_heard h)) × (h.moment.nanos ≤ t.nanos)
  later_hearing h m =
      let f = no_less (IsHeardAt gs (record_heard h)) h.moment.nanos (covered h m) in
      let t = f.1.0.moment in
      (t, itself_heard gs (record_heard h) t (f.1.0, f.1.1, f.1.2, refl), omega (arith, f.2, f.1.3))

  lasts-covered : (key : Key) (o : Option Latest) → MatchOption o (IsUnheard gs key) (IsLast gs key)
      → MatchOption o (IsUnheard hs key) (IsLast hs key)
  lasts-covered key None n = λ h m o. let f = later_hearing h m in n (hearing_of f.0 (record_heard h)) f.1 o
  lasts-covered key (Some l) p = IsLast-in gs hs key l p (into p.hearing p.among)
      (λ h m o. let f = later_hearing h m in
      let g = hearing_of f.0 (record_heard h) in
      latest-upto (latest_of h) (latest_of g) l (no_greater (latest_of h) (latest_of g) f.2 refl refl) (p.greatest g f.1 o))

  newest-covered : (o : Option Moment) → MatchOption o (gs ≡ []) (IsNewest gs) → MatchOption o (hs ≡ []) (IsNewest hs)
  newest-covered None e = nothing hs (λ h m. let f = later_hearing h m in
      Contains-nil _ (subst (λ (xs : List Hearing). Contains xs (hearing_of f.0 (record_heard h))) e f.1))
  newest-covered (Some n) q = record {
    hearing = q.hearing;
    among = into q.hearing q.among;
    at_it = q.at_it;
    latest = λ h m. let f = later_hearing h m in omega (arith, f.2, q.latest (hearing_of f.0 (record_heard h)) f.1);
  }

  flushes-covered : (set : RecordSet) → kept_of (flush_moments gs set) ≡ kept_of (flush_moments hs set)
  flushes-covered set =
      let up : (q : ℕ) → has (flush_moments gs set) q ≡ true → has (flush_moments hs set) q ≡ true = λ q e.
      let f = IsFlushedAt-from_has gs set q e in
      has-from_flushed hs set q (IsFlushedAt-in gs hs set q f (into f.flush f.among)) in
      kept_of-between (flush_moments gs set) (flush_moments hs set) up
      (λ q e. let f = IsFlushedAt-from_has hs set q e in
      let r = record_heard f.flush in
      let there : (p : ℕ) → IsHeardAt gs r p → has (flush_moments gs set) p ≡ true = λ p a.
      has-from_flushed gs set p (record {
        flush = hearing_of a.0.moment r;
        among = itself_heard gs r a.0.moment (a.0, a.1, a.2, refl);
        of_set = record { of_set = f.of_set.of_set; flush = f.of_set.flush };
        at_it = a.3;
      }) in
      elim (subst (IsCovered (IsHeardAt gs r)) f.at_it (covered f.flush f.among)) [
        | inl a ↦ inl (there q a)
        | inr o ↦ (let top = up o.newest (there o.newest o.at_newest) in inr (record {
          next = o.next;
          among = up o.next (there o.next o.at_next);
          after = o.after;
          old = omega (arith, o.old, has-le-newest (flush_moments hs set) o.newest top);
        }))
      ])

  -- contents that stand for hearings stand for more of them that aren't needed beside these
  pub stands-covered : (c : Contents) → StandsFor c gs → StandsFor c hs
  stands-covered c s = grind (arith, lasts-covered, flushes-covered, newest-covered)
