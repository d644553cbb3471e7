-- How many hearings are left of a list that was thinned.
use Rattle.std.proofs.lemmas.{Grind.{common_steps}, Bool.{cases_lt}, List.{take_more, take_more_set, length-take-le, length-set}}
use Rattle.std.proofs.Common.{◌≡◌, ◌≢◌, ℕ, ◌+◌, ◌-◌, ◌*◌, ◌<◌, ◌≤◌, List, [], ◌∷◌, ◌++◌, Contains, length, get_or, take, drop}
use Rattle.std.proofs.Common.{slice_set, refl, sym, subst, inl, inr, arith, append_assoc}
use Rattle.std.specs.declared.cmp.{Ordering.{Ordering}, Ordering.TheVariants.{Less, Equal, Greater}}
use Rattle.std.specs.{Ordering.{nat_cmp, match_ordering}, List.{AllByRecursion}, Map.{keys_of}}
use Rattle.join_map.specs.Entries.{put_entry}
use Rattle.mdns_cache.proofs.StandsPartLemmas.{Contains-nil, Contains-later}
use Rattle.mdns_lives.specs.{declared.life.RecordHearing.{RecordHearing}, History.{AreInOrder}}
use Rattle.mdns_lives.specs.Seconds.{second_of, IsSparse, Ends, ends, Seconds, join_ends, join_seconds, only, seconds_of, IsRoomFor}
use Rattle.mdns_lives.proofs.{OrderLemmas.{no_later, first_least, in_order-rest}, SecondsLemmas.{seconds_of-push}}
use Rattle.mdns_lives.proofs.ThinLemmas.{between_ends, take_next, drop_next}

-- ---- how many seconds are held

-- each second is later than s
abbrev AllAfter : ℕ → Seconds → Type 0
AllAfter s seconds = AllByRecursion (λ y. nat_cmp s y ≡ Less) (keys_of seconds)

after_by : (o : Ordering) (j k : ℕ) (v : Ends) (e : ℕ × Ends) (es : Seconds) → nat_cmp j k ≡ Less → AllAfter j (e ∷ es)
    → AllAfter j (put_entry nat_cmp join_ends es k v)
    → AllAfter j (match_ordering o ((k, v) ∷ e ∷ es) ((e.0, join_ends e.1 v) ∷ es) (e ∷ put_entry nat_cmp join_ends es k v))
after_by Less j k v e es l a rest = (l, a)
after_by Equal j k v e es l a rest = a
after_by Greater j k v e es l a rest = (a.0, rest)

after-put : (j k : ℕ) (v : Ends) (es : Seconds) → nat_cmp j k ≡ Less → AllAfter j es
    → AllAfter j (put_entry nat_cmp join_ends es k v)
after-put j k v [] l a = (l, tt)
after-put j k v (e ∷ es) l a = after_by (nat_cmp k e.0) j k v e es l a (after-put j k v es l a.1)

after-seconds_of : (s : ℕ) (hs : List RecordHearing) → ((h : RecordHearing) → Contains hs h → s < second_of h) → AllAfter s (seconds_of hs)
unfolding seconds_of
after-seconds_of s [] all = tt
after-seconds_of s (h ∷ hs) all = grind (arith, after-put, after-seconds_of s hs (λ x m. all x (Contains-later h hs x m)))

put_first : (k : ℕ) (v : Ends) (es : Seconds) → AllAfter k es → put_entry nat_cmp join_ends es k v ≡ (k, v) ∷ es
put_first k v [] a = refl
put_first k v (e ∷ es) a = grind arith

length_by : (o : Ordering) (k : ℕ) (v : Ends) (e : ℕ × Ends) (es : Seconds)
    → length es ≤ length (put_entry nat_cmp join_ends es k v)
    → length (e ∷ es)
    ≤ length (match_ordering o ((k, v) ∷ e ∷ es) ((e.0, join_ends e.1 v) ∷ es) (e ∷ put_entry nat_cmp join_ends es k v))
length_by Less k v e es rest = omega arith
length_by Equal k v e es rest = omega arith
length_by Greater k v e es rest = omega (arith, rest)

length-put : (k : ℕ) (v : Ends) (es : Seconds) → length es ≤ length (put_entry nat_cmp join_ends es k v)
length-put k v [] = omega arith
length-put k v (e ∷ es) = length_by (nat_cmp k e.0) k v e es (length-put k v es)

-- no second is lost
pub length-join : (xs ys : Seconds) → length xs ≤ length (join_seconds xs ys)
length-join xs [] = omega arith
length-join xs (e ∷ es) = grind (arith, length-put, length-join (put_entry nat_cmp join_ends xs e.0 e.1) es)

-- a hearing of an earlier second than all others
one_more : (h : RecordHearing) (hs : List RecordHearing) → ((x : RecordHearing) → Contains hs x → second_of h < second_of x)
    → length (seconds_of (h ∷ hs)) ≡ length (seconds_of hs) + 1
unfolding seconds_of
one_more h hs all = grind (arith, put_first (second_of h) (ends h h) (seconds_of hs) (after-seconds_of (second_of h) hs all))

no_fewer : (h : RecordHearing) (hs : List RecordHearing) → length (seconds_of hs) ≤ length (seconds_of (h ∷ hs))
unfolding seconds_of
no_fewer h hs = length-put (second_of h) (ends h h) (seconds_of hs)

-- ---- sparse lists

sparse-rest : (h : RecordHearing) (hs : List RecordHearing) → IsSparse (h ∷ hs) → IsSparse hs
sparse-rest h [] s = tt
sparse-rest h (a ∷ []) s = tt
sparse-rest h (a ∷ b ∷ hs) s = s.1

-- the hearings after two of one second are of later ones
later_seconds : (a b : RecordHearing) (hs : List RecordHearing) → AreInOrder (b ∷ hs) → IsSparse (a ∷ b ∷ hs) → second_of b ≤ second_of a
    → (x : RecordHearing) → Contains hs x → second_of b < second_of x
later_seconds a b [] o s l x m = absurd (Contains-nil x m)
later_seconds a b (c ∷ hs) o s l x m = grind (arith, no_later c x (first_least c hs o.1 x m), first_least c hs o.1 x m)

pub few : (hs : List RecordHearing) → AreInOrder hs → IsSparse hs → length hs ≤ 2 * length (seconds_of hs)
few [] o s = omega arith
few (a ∷ []) o s = let more = one_more a [] (λ x m. absurd (Contains-nil x m)) in omega (arith, more)
few (a ∷ b ∷ hs) o s =
    elim (cases_lt (second_of a) (second_of b)) [
      | inl l ↦ (
          let more = one_more a (b ∷ hs) (λ x m. let up = no_later b x (first_least b hs o.1 x m) in omega (arith, l, up)) in
          let rest = few (b ∷ hs) o.1 (sparse-rest a (b ∷ hs) s) in
          omega (arith, more, rest))
      | inr l ↦ (
          let more = one_more b hs (later_seconds a b hs o.1 s l) in
          let both = no_fewer a (b ∷ hs) in
          let rest = few hs (in_order-rest b hs o.1) (sparse-rest b hs (sparse-rest a (b ∷ hs) s)) in
          omega (arith, more, both, rest))
    ]

sparse_behind : (front : List RecordHearing) (a b n : RecordHearing) → IsSparse (front ++ a ∷ b ∷ []) → second_of a < second_of n
    → IsSparse (front ++ a ∷ b ∷ n ∷ [])
sparse_behind [] a b n s l = (l, tt)
sparse_behind (x ∷ []) a b n s l = (s.0, (l, tt))
sparse_behind (x ∷ y ∷ []) a b n s l = (s.0, (s.1.0, (l, tt)))
sparse_behind (x ∷ y ∷ z ∷ front) a b n s l = (s.0, sparse_behind (y ∷ z ∷ front) a b n s.1 l)

sparse_in_place : (front : List RecordHearing) (a b n : RecordHearing) → IsSparse (front ++ a ∷ b ∷ []) → second_of b ≤ second_of n
    → IsSparse (front ++ a ∷ n ∷ [])
sparse_in_place [] a b n s l = tt
sparse_in_place (x ∷ []) a b n s l = (omega (arith, s.0, l), tt)
sparse_in_place (x ∷ y ∷ []) a b n s l = (s.0, (omega (arith, s.1.0, l), tt))
sparse_in_place (x ∷ y ∷ z ∷ front) a b n s l = (s.0, sparse_in_place (y ∷ z ∷ front) a b n s.1 l)

sparse_short : (hs : List RecordHearing) → length hs ≤ 2 → IsSparse hs
sparse_short [] l = tt
sparse_short (a ∷ []) l = tt
sparse_short (a ∷ b ∷ []) l = tt
sparse_short (a ∷ b ∷ c ∷ hs) l = absurd (omega (arith, l))

-- ---- by index

module _ (xs : List RecordHearing) (kept place : ℕ) (a next : RecordHearing) (two : 2 ≤ kept) (le : kept ≤ place) (l : place < length xs)
    (first : a ≡ get_or xs (kept - 2) a) (now : next ≡ get_or xs place next)
    (o : AreInOrder (take kept xs ++ drop place xs)) (s : IsSparse (take kept xs)) where
  abbrev front : List RecordHearing
  front = take (kept - 2) xs

  abbrev last : RecordHearing
  last = get_or xs (kept - 2 + 1) a

  taken : take kept xs ≡ front ++ a ∷ last ∷ []
  taken = grind (arith, common_steps, take_more, take_next, append_assoc)

  in_whole : AreInOrder (front ++ a ∷ last ∷ next ∷ drop (place + 1) xs)
  in_whole = grind (arith, taken, drop_next, append_assoc)

  sparse_taken : IsSparse (front ++ a ∷ last ∷ [])
  sparse_taken = subst IsSparse taken s

  pub kept_sparse_in_place : IsSparse (take kept (slice_set xs (kept - 1) next))
  kept_sparse_in_place =
      let is : kept ≡ (kept - 2 + 1) + 1 = omega (arith, two) in
      let at : kept - 1 ≡ kept - 2 + 1 = omega (arith, two) in
      let up = no_later last next (between_ends a last next (drop (place + 1) xs) front in_whole).1 in
      let whole : take kept (slice_set xs (kept - 1) next) ≡ front ++ a ∷ next ∷ [] =
      grind (arith, take_more_set, take_next xs (kept - 2) a (omega (arith, two, le, l)) first, append_assoc front (a ∷ []) (next ∷ [])) in
      subst IsSparse (sym whole) (sparse_in_place front a last next sparse_taken (omega (arith, up)))

  pub kept_sparse_behind : second_of a ≢ second_of next → IsSparse (take (kept + 1) (slice_set xs kept next))
  kept_sparse_behind unlike =
      grind (arith, between_ends, in_whole, no_later, cases_lt, slice_set, take_more_set, taken, append_assoc, sparse_behind, sparse_taken)

pub kept_sparse_first : (xs : List RecordHearing) (kept place : ℕ) (next : RecordHearing) → kept < 2 → kept ≤ place → place < length xs
    → IsSparse (take (kept + 1) (slice_set xs kept next))
kept_sparse_first xs kept place next two le l = grind (arith, length-set, length-take-le, slice_set, sparse_short)

-- one more hearing in the same room
pub room_pushed : (hs gs : List RecordHearing) (h : RecordHearing) (held room same : ℕ) → gs ≡ hs ++ h ∷ [] → same ≡ room
    → IsRoomFor (seconds_of hs) held room → IsRoomFor (seconds_of gs) held same
room_pushed hs gs h held room same is kept bound = grind (arith, length-join (seconds_of hs) (only h), seconds_of-push hs h)
