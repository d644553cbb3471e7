-- What the contents of a cache say of the hearings that they stand for.
use Rattle.std.proofs.Common.{◌≡◌, ℕ, ◌+◌, ◌<◌, ◌≤◌, Bool, true, false, ◌==◌, List, [], ◌∷◌, length}
use Rattle.std.proofs.Common.{Option, None, Some, Contains, MatchOption, IfSome, IsSome, is_some, IsTrue, ◌↔◌}
use Rattle.std.proofs.Common.{unwrap_or, refl, sym, ap, ◌∙◌, subst, arith, cond}
use Rattle.std.proofs.lemmas.{Bool.{false≢true, or_left, eq-eqb}, Cmp.{tied_itself, eq_by_cmp_equiv}}
use Rattle.std.proofs.lemmas.Map.{Views.{IsSome-lookup_from_Contains, Contains-keys_from_lookup}, Entries.{length-keys_of}}
use Rattle.std.specs.{Ordering.{is_eq, eq_by_cmp}, Map.{keys_of}}
use Rattle.mdns_capture.specs.{declared.moment.Moment.{Moment}, Limits.{second}}
use Rattle.mdns_message.specs.{declared.hearing.Hearing.{Hearing}, declared.key.Key.{Key}, RecordSet.{RecordSet}, RecordAt.{HeardRecord}}
use Rattle.mdns_message.specs.{Resource.{key_of, key_cmp}, laws.Resource.{key_cmp-total, key_cmp-exact}}
use Rattle.mdns_join.specs.{declared.latest.Latest.{Latest}, Latest.{latest_of}, Nanos.{nanos_of}}
use Rattle.mdns_join.specs.Kept.{has, newest, kept, IsGreatest, IsKept, IsKeptList, IsStruckBy}
use Rattle.mdns_join.specs.laws.Kept.{struck-kept, struck-kept_iff, has-kept_iff, has-le-newest, has-newest, kept-one}
use Rattle.join_map.specs.{laws.Entries.{is_Equal}}
use Rattle.mdns_cache.specs.Live.{IsUnheard, IsHeard, IsLast, IsNewest, CountsRecords, life_of, IsStruck, IsLive, is_flush_of}
use Rattle.mdns_cache.specs.{Live.{flush_moments, IsEnd}, LentRecords.{end_of, end_held}, Contents.{Contents, last_at, flushes_at, kept_of}}
use Rattle.mdns_cache.specs.{Contents.{StandsFor, contents_of}, Repeats.{record_heard, at_each, contents_at_each}}
use Rattle.mdns_cache.proofs.StandsPartLemmas.{Contains-nil, IsFlushedAt-from_has, has-from_flush, has-head, same-itself, IsLast-same}
use Rattle.mdns_cache.proofs.{BetweenLemmas.{IsContents-each}, RepeatLemmas.{heard_each, itself_heard, no_greater}}
use Rattle.mdns_cache.proofs.EndLemmas.{until_end_of, IsEnd-by_kept}

-- ---- one hearing

pub flushed : (h : Hearing) (set : RecordSet) (us : List Moment) → flush_moments (at_each us h) set ≡ cond (is_flush_of set h) (nanos_of us) []
flushed h set [] = elim (is_flush_of set h) as (λ b. flush_moments [] set ≡ cond b (nanos_of []) []) [ true ↦ refl | false ↦ refl ]
flushed h set (u ∷ us) = grind (arith, flushed h set us)

-- a hearing at each of some moments, of which its own is the newest
module _ (h : Hearing) (ms : List ℕ) (k : IsKeptList ms) (top : IsGreatest ms h.moment.nanos) (ts : List Moment)
    (are : nanos_of ts ≡ ms) where
  each : (g : Hearing) → Contains (at_each ts h) g → (record_heard h ≡ record_heard g) × (g.moment.nanos ≤ h.moment.nanos)
  each g m =
      let w = (heard_each ts h (record_heard g) g.moment.nanos).0 (g, m, refl, refl) in
      let there = subst (λ (xs : List ℕ). has xs g.moment.nanos ≡ true) are w.1 in
      (w.0, omega (arith, has-le-newest ms g.moment.nanos there, top.greatest))

  itself : Contains (at_each ts h) h
  itself =
      let there = subst (λ (xs : List ℕ). has xs h.moment.nanos ≡ true) (sym are) top.among in
      itself_heard (at_each ts h) (record_heard h) h.moment ((heard_each ts h (record_heard h) h.moment.nanos).1 (refl, there))

  IsLast-each : (key : Key) → key ≡ key_of h.heard → IsLast (at_each ts h) key (latest_of h)
  IsLast-each key e = record {
    hearing = h;
    among = itself;
    of_record = sym e;
    gives = refl;
    greatest = λ g m o. let same = each g m in no_greater (latest_of g) (latest_of h) same.1
        (sym (ap (λ (r : HeardRecord). r.ttl) same.0)) (sym (ap (λ (r : HeardRecord). r.resource) same.0));
  }

  IsUnheard-each : (key : Key) → is_eq (key_cmp key (key_of h.heard)) ≡ false → IsUnheard (at_each ts h) key
  IsUnheard-each key e g m o = grind (arith, each g m, false≢true, tied_itself key_cmp-total key)

  lasts-each : (key : Key) → MatchOption (last_at key (contents_at_each h ms)) (IsUnheard (at_each ts h) key) (IsLast (at_each ts h) key)
  lasts-each key =
      elim (is_eq (key_cmp key (key_of h.heard))) as (λ t. is_eq (key_cmp key (key_of h.heard)) ≡ t
      → MatchOption (cond t (Some (latest_of h)) None) (IsUnheard (at_each ts h) key) (IsLast (at_each ts h) key)) [
        | true ↦ λ e. IsLast-each key (key_cmp-exact key (key_of h.heard) (is_Equal (key_cmp key (key_of h.heard)) e))
        | false ↦ λ e. IsUnheard-each key e
      ] refl

  kept_of-all : (xs : List ℕ) → IsKeptList xs → has xs h.moment.nanos ≡ true → Some xs ≡ kept_of xs
  kept_of-all [] l a = absurd (false≢true a)
  kept_of-all (x ∷ xs) l a = ap Some (sym l)

  flushes-each : (set : RecordSet) → flushes_at set (contents_at_each h ms) ≡ kept_of (flush_moments (at_each ts h) set)
  flushes-each set = grind (arith, kept_of-all, flushed)

  pub stands-each : StandsFor (contents_at_each h ms) (at_each ts h)
  stands-each = record {
    contents = IsContents-each h ms k top.greatest;
    lasts = lasts-each;
    flushes = flushes-each;
    newest = record { hearing = h; among = itself; at_it = refl; latest = λ g m. (each g m).1 };
  }

-- the contents of a hearing stand for it
pub stands-one : (h : Hearing) → StandsFor (contents_of h) (h ∷ [])
stands-one h =
    let m = h.moment.nanos in
    stands-each h (m ∷ []) (kept-one m) (record { among = has-head m []; greatest = omega arith }) (h.moment ∷ []) refl

-- ---- the last of a record

pub IsLast-held : (c : Contents) (heard : List Hearing) (key : Key) (l : Latest) → last_at key c ≡ Some l
    → StandsFor c heard → IsLast heard key l
IsLast-held c heard key l e s = subst (λ (o : Option Latest). MatchOption o (IsUnheard heard key) (IsLast heard key)) e (s.lasts key)

pub IsUnheard-held : (c : Contents) (heard : List Hearing) (key : Key) → last_at key c ≡ None → StandsFor c heard → IsUnheard heard key
IsUnheard-held c heard key e s = subst (λ (o : Option Latest). MatchOption o (IsUnheard heard key) (IsLast heard key)) e (s.lasts key)

-- ---- how many records

pub key_eq-exact : (x y : Key) → eq_by_cmp key_cmp x y ≡ true → x ≡ y
key_eq-exact x y e = key_cmp-exact x y (is_Equal (key_cmp x y) e)

IsHeard-held : (heard : List Hearing) (key : Key) (o : Option Latest) → IsSome o
    → MatchOption o (IsUnheard heard key) (IsLast heard key) → IsHeard heard key
IsHeard-held heard key None e m = absurd (false≢true e)
IsHeard-held heard key (Some l) e m = record { hearing = m.hearing; among = m.among; of_record = m.of_record }

IsSome-held : (heard : List Hearing) (key : Key) (o : Option Latest) → IsHeard heard key
    → MatchOption o (IsUnheard heard key) (IsLast heard key) → IsSome o
IsSome-held heard key None h m = absurd (m h.hearing h.among h.of_record)
IsSome-held heard key (Some l) h m = refl

pub counts_records : (c : Contents) (heard : List Hearing) (n : ℕ) → n ≡ length c.lasts → StandsFor c heard → CountsRecords heard n
counts_records c heard n e s = record {
  keys = keys_of c.lasts;
  distinct = s.contents.lasts.sorted;
  exactly = λ key. (
    λ m. IsHeard-held heard key (last_at key c)
        (IsSome-lookup_from_Contains (eq_by_cmp_equiv key_cmp-total) key c.lasts m) (s.lasts key),
    λ h. Contains-keys_from_lookup key_eq-exact key c.lasts
        (IsSome-held heard key (last_at key c) h (s.lasts key)),
  );
  counted = e ∙ sym (length-keys_of c.lasts);
}

-- ---- flush moments

kept_of-has : (fm : List ℕ) (ms : List ℕ) → Some ms ≡ kept_of fm → (m : ℕ) → (has ms m ≡ true) ↔ IsKept fm m
kept_of-has [] ms e m = absurd (cc)
kept_of-has (x ∷ xs) ms e m = let same : kept (x ∷ xs) ≡ ms = cc in
    subst (λ (zs : List ℕ). (has zs m ≡ true) ↔ IsKept (x ∷ xs) m) same (has-kept_iff (x ∷ xs) m)

kept_of-none : (fm : List ℕ) → None ≡ kept_of fm → fm ≡ []
kept_of-none [] e = refl
kept_of-none (x ∷ xs) e = absurd (cc)

pub flushes-held : (c : Contents) (heard : List Hearing) (set : RecordSet) (ms : List ℕ) → flushes_at set c ≡ Some ms
    → StandsFor c heard → (m : ℕ) → (has ms m ≡ true) ↔ IsKept (flush_moments heard set) m
flushes-held c heard set ms e s = kept_of-has (flush_moments heard set) ms (sym e ∙ s.flushes set)

pub flushes-none : (c : Contents) (heard : List Hearing) (set : RecordSet) → flushes_at set c ≡ None → StandsFor c heard
    → (m : ℕ) → (false ≡ true) ↔ IsKept (flush_moments heard set) m
flushes-none c heard set e s m = grind (arith, kept_of-none)

-- ---- liveness

-- the moment asked for is no earlier than any that was heard
abbrev pub IsAsked : Contents → ℕ → Type 0
IsAsked c now = IfSome c.newest (λ newest. newest.nanos ≤ now)

heard_before : (c : Contents) (heard : List Hearing) (now : ℕ) → IsAsked c now → StandsFor c heard → (h : Hearing)
    → Contains heard h → h.moment.nanos ≤ now
heard_before c heard now a s h m = by c.newest a s.newest
  where
    by : (o : Option Moment) → IfSome o (λ newest. newest.nanos ≤ now) → MatchOption o (heard ≡ []) (IsNewest heard) → h.moment.nanos ≤ now
    by None a n = absurd (Contains-nil h (subst (λ (hs : List Hearing). Contains hs h) n m))
    by (Some x) a n = let l : h.moment.nanos ≤ x.nanos = n.latest h m in omega (arith, l, a)

pub newest_before : (heard : List Hearing) (now : ℕ) (set : RecordSet)
    → ((h : Hearing) → Contains heard h → h.moment.nanos ≤ now) → newest (flush_moments heard set) ≤ now
newest_before heard now set before = by (flush_moments heard set) (λ m h. let f =
    IsFlushedAt-from_has heard set m h in let l = before f.flush f.among in omega (arith, f.at_it))
  where
    by : (xs : List ℕ) → ((m : ℕ) → has xs m ≡ true → m ≤ now) → newest xs ≤ now
    by [] b = omega arith
    by (x ∷ xs) b = b (newest (x ∷ xs)) (has-newest (x ∷ xs) x (or_left (x == x) (has xs x) (eq-eqb x x refl)))

held_or_none : (fm : List ℕ) → unwrap_or (kept_of fm) [] ≡ kept fm
unfolding kept
held_or_none [] = refl
held_or_none (x ∷ xs) = refl

-- the kept flush moments strike a record exactly where those of all hearings do
pub struck-kept_heard : (heard : List Hearing) (now : ℕ) (key : Key) (t : ℕ)
    → ((h : Hearing) → Contains heard h → h.moment.nanos ≤ now)
    → IsStruckBy (kept (flush_moments heard key.set)) t now ↔ IsStruck heard now key t
struck-kept_heard heard now key t before =
    let fm = flush_moments heard key.set in
    let both = struck-kept_iff fm t now (newest_before heard now key.set before) in (
      λ e.
          let k : IsStruckBy fm t now = both.0 e in
          let f = IsFlushedAt-from_has heard key.set k.flush k.among in
          let at : f.flush.moment.nanos ≡ k.flush = f.at_it in
          let later : t + second < k.flush = k.later in
          let old : k.flush + second ≤ now = k.old in
          record {
            flush = f.flush;
            strikes = record { among = f.among; of_set = f.of_set; later = omega arith };
            old = omega arith;
          },
      λ k.
          let there : has fm k.flush.moment.nanos ≡ true =
          has-from_flush heard key.set k.flush k.strikes.among k.strikes.of_set in
          both.1 (record { flush = k.flush.moment.nanos; among = there; later = k.strikes.later; old = k.old }),
    )

-- the flush moments held are those kept of all hearings' flush moments
held_moments : (c : Contents) (heard : List Hearing) (set : RecordSet) → StandsFor c heard
    → unwrap_or (flushes_at set c) [] ≡ kept (flush_moments heard set)
held_moments c heard set s = ap (λ o. unwrap_or o []) (s.flushes set) ∙ held_or_none (flush_moments heard set)

-- a record is live exactly before its end by the flush moments that are held
pub living-held : (c : Contents) (heard : List Hearing) (now : ℕ) (key : Key) (l : Latest) → IsAsked c now
    → StandsFor c heard → IsLast heard key l → (now < end_held c.flushes (key, l)) ↔ IsLive heard now key l
living-held c heard now key l a s last =
    let t = l.moment.nanos in
    let ms = unwrap_or (flushes_at key.set c) [] in
    let held = held_moments c heard key.set s in
    let struck = struck-kept_heard heard now key t (heard_before c heard now a s) in
    let before = until_end_of ms t (t + life_of l.ttl) now in (
      λ e. let w = before.0 e in record {
        last = last;
        running = w.0;
        unstruck =
            λ k. w.1 (subst (λ (xs : List ℕ). IsStruckBy xs t now) (sym held) (struck.1 k));
      },
      λ v. before.1 (v.running, λ k. v.unstruck (struck.0 (subst (λ (xs : List ℕ). IsStruckBy xs t now) held k))),
    )

-- the end of a live record by the flush moments that are held is its end by all hearings
pub end-held : (c : Contents) (heard : List Hearing) (now : ℕ) (key : Key) (l : Latest) → IsAsked c now
    → StandsFor c heard → IsLive heard now key l → IsEnd heard key (end_held c.flushes (key, l))
end-held c heard now key l a s v =
    let t = l.moment.nanos in
    let fm = flush_moments heard key.set in
    let before = heard_before c heard now a s in
    let early = newest_before heard now key.set before in
    let unstruck : IsStruckBy fm t now
    → ⊥ = λ k. v.unstruck ((struck-kept_heard heard now key t before).0 (struck-kept fm t now early k)) in
    subst (λ (xs : List ℕ). IsEnd heard key (end_of xs t (t + life_of l.ttl))) (sym (held_moments c heard key.set s))
    (IsEnd-by_kept heard key l now v.last early unstruck)

-- the answer for a record that ends later than `now`
pub ends_at-later : (c : Contents) (heard : List Hearing) (now : ℕ) (key : Key) (l : Latest) → last_at key c ≡ Some l
    → IsAsked c now → StandsFor c heard → now < end_held c.flushes (key, l)
    → ((x : Latest) × IsLive heard now key x) × IsEnd heard key (end_held c.flushes (key, l))
ends_at-later c heard now key l at a s later =
    let live = (living-held c heard now key l a s (IsLast-held c heard key l at s)).0 later in
    ((l, live), end-held c heard now key l a s live)

-- a record that doesn't end later than `now` isn't live
pub ends_at-over : (c : Contents) (heard : List Hearing) (now : ℕ) (key : Key) (l : Latest) → last_at key c ≡ Some l
    → IsAsked c now → StandsFor c heard → (now < end_held c.flushes (key, l) → ⊥)
    → ¬ ((x : Latest) × IsLive heard now key x)
ends_at-over c heard now key l at a s over w =
    let last = IsLast-held c heard key l at s in
    over ((living-held c heard now key l a s last).1
    (subst (λ (x : Latest). IsLive heard now key x)
    (IsLast-same heard heard (same-itself heard) key w.0 l w.1.last last) w.1))

-- a record is live exactly where its end is returned
pub is_live-by_end : {Live : Type 0} (End : ℕ → Type 0) (end : Option ℕ) (r : Bool) → r ≡ is_some end
    → MatchOption end (¬ Live) (λ n. Live × End n) → IsTrue r ↔ Live
is_live-by_end End None r e none = (λ t. absurd (false≢true (sym e ∙ t)), λ l. absurd (none l))
is_live-by_end End (Some n) r e some = (λ t. some.0, λ l. e)

-- WHAT FUNCTIONS ARE PROVED BY

pub ruleset for_contents_of_union = (stands-one)
