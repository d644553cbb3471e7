-- Which hearings the seconds of a list hold, and those of a join.
use Rattle.std.proofs.Common.{rules, arith, ◌+◌, ◌<◌, length, get_or, take, drop, sym, ap, ◌∙◌, subst, inl, inr}
use Rattle.std.proofs.Common.{◌≡◌, ◌⊎◌, ℕ, Bool, true, false, cond, List, [], ◌∷◌, ◌++◌, Option, None, Some, Contains, refl}
use Rattle.std.proofs.lemmas.List.{take_more, take-append-drop}
use Rattle.std.proofs.lemmas.List.Elements.{Contains-append_left, Contains-append_right, Contains-append_cases}
use Rattle.std.proofs.lemmas.{List.Sorted.{IsPermutation-sym, Contains-permutation}, Map.Lookups.{exact_unsigned}}
use Rattle.std.specs.{declared.cmp.Ordering.TheVariants.{Less, Equal, Greater}, Ordering.{nat_cmp, is_eq, is_lt, match_ordering}}
use Rattle.std.specs.{Ordering.{ordering_reverse, flip_args}, Cmp.{nat_cmp_total}, List.Sorted.{IsPermutation}}
use Rattle.join_map.specs.{Entries.{value_at, joined_at}, Join.{IsPartOfJoin, greater_of}, laws.Join.{IsAtMost-left}}
use Rattle.join_map.specs.laws.Entries.{is_Equal, same_entries, value_at-put, value_at-join, IsJoinMap-none, IsJoinMap-one, IsJoinMap-put}
use Rattle.join_map.specs.laws.Entries.{IsJoinMap-join}
use Rattle.mdns_cache.proofs.StandsPartLemmas.{Contains-nil, Contains-head, Contains-later, Contains-cases}
use Rattle.mdns_lives.specs.{declared.life.RecordHearing.{RecordHearing}, History.{IsUpTo}, Seconds.{heard_cmp, second_of, IsBetween}}
use Rattle.mdns_lives.specs.Seconds.{AreEndsOf, Ends, ends, AreEnds, IsUnheardIn, AreEndsIn, Seconds, join_ends, IsSeconds, join_seconds}
use Rattle.mdns_lives.specs.{Seconds.{only, seconds_of, JoinsFirst}, laws.Seconds.{heard_cmp-total, ends-laws, seconds-laws}}
use Rattle.mdns_lives.proofs.OrderLemmas.{IsUpTo-itself, IsUpTo-onward, IsUpTo-from_lt, same_heard}

-- ---- the lesser and the greater of two hearings

not_lt : (a b : RecordHearing) → heard_cmp a b ≡ Less → is_lt (heard_cmp b a) ≡ false
not_lt a b e = ap is_lt (heard_cmp-total.antisymm b a ∙ ap ordering_reverse e)

record IsLesser (a b least : RecordHearing) : Type 0 where
  pub one : (least ≡ a) ⊎ (least ≡ b)
  pub up_to_first : IsUpTo least a
  pub up_to_second : IsUpTo least b

lesser-is : (a b : RecordHearing) → IsLesser a b (greater_of (flip_args heard_cmp) a b)
lesser-is a b =
    elim (heard_cmp b a) as (λ o. heard_cmp b a ≡ o → IsLesser a b (match_ordering o b a a)) [
      | Less ↦ λ e. record { one = inr refl; up_to_first = IsUpTo-from_lt b a (not_lt b a e); up_to_second = IsUpTo-itself b }
      | Equal ↦ λ e. record { one = inl refl; up_to_first = IsUpTo-itself a; up_to_second = IsUpTo-from_lt a b (ap is_lt e) }
      | Greater ↦ λ e. record { one = inl refl; up_to_first = IsUpTo-itself a; up_to_second = IsUpTo-from_lt a b (ap is_lt e) }
    ] refl

record IsGreater (a b greatest : RecordHearing) : Type 0 where
  pub one : (greatest ≡ a) ⊎ (greatest ≡ b)
  pub from_first : IsUpTo a greatest
  pub from_second : IsUpTo b greatest

greater-is : (a b : RecordHearing) → IsGreater a b (greater_of heard_cmp a b)
greater-is a b =
    elim (heard_cmp a b) as (λ o. heard_cmp a b ≡ o → IsGreater a b (match_ordering o b a a)) [
      | Less ↦ λ e. record { one = inr refl; from_first = IsUpTo-from_lt a b (not_lt a b e); from_second = IsUpTo-itself b }
      | Equal ↦ λ e. record { one = inl refl; from_first = IsUpTo-itself a; from_second = IsUpTo-from_lt b a (ap is_lt e) }
      | Greater ↦ λ e. record { one = inl refl; from_first = IsUpTo-itself a; from_second = IsUpTo-from_lt b a (ap is_lt e) }
    ] refl

-- ---- the ends of one second

module _ {P Q R : RecordHearing → Type 0} (left : (h : RecordHearing) → P h → R h) (right : (h : RecordHearing) → Q h → R h)
    (cases : (h : RecordHearing) → R h → P h ⊎ Q h) (s : ℕ) where
  ends-left : (a : Ends) → AreEnds P s a → IsUnheardIn Q s → AreEnds R s a
  ends-left a p none = grind arith

  ends-right : (b : Ends) → IsUnheardIn P s → AreEnds Q s b → AreEnds R s b
  ends-right b none q = grind arith

  ends-both : (a b : Ends) → AreEnds P s a → AreEnds Q s b → AreEnds R s (join_ends a b)
  ends-both a b p q =
      let l = lesser-is a.least b.least in
      let g = greater-is a.greatest b.greatest in
      let least = (join_ends a b).least in
      let greatest = (join_ends a b).greatest in
      record {
        least_there = grind arith;
        greatest_there = grind arith;
        least_in = elim l.one [ inl e ↦ ap second_of e ∙ p.least_in | inr e ↦ ap second_of e ∙ q.least_in ];
        greatest_in = elim g.one [ inl e ↦ ap second_of e ∙ p.greatest_in | inr e ↦ ap second_of e ∙ q.greatest_in ];
        between = λ h m e. elim (cases h m) [
          | inl x ↦ grind (arith, IsUpTo-onward least a.least h l.up_to_first (p.between h x e).0, IsUpTo-onward)
          | inr y ↦ grind (arith, IsUpTo-onward least b.least h l.up_to_second (q.between h y e).0, IsUpTo-onward)
        ];
      }

  -- of hearings of either side
  pub ends-joined : (o p : Option Ends) → AreEndsIn P s o → AreEndsIn Q s p → AreEndsIn R s (joined_at join_ends o p)
  ends-joined None None u v = λ h m e. elim (cases h m) [ inl x ↦ u h x e | inr y ↦ v h y e ]
  ends-joined None (Some b) u v = ends-right b u v
  ends-joined (Some a) None u v = ends-left a u v
  ends-joined (Some a) (Some b) u v = ends-both a b u v

-- of hearings that are there for others
pub ends-alike : {P Q : RecordHearing → Type 0} → ((h : RecordHearing) → P h → Q h) → ((h : RecordHearing) → Q h → P h) → (s : ℕ) (o : Option Ends)
    → AreEndsIn P s o → AreEndsIn Q s o
ends-alike into back s None u = λ h m e. u h (back h m) e
ends-alike into back s (Some a) u = grind arith

-- hearings that are there lie between themselves
pub between-itself : {P : RecordHearing → Type 0} (h : RecordHearing) → P h → IsBetween P h
between-itself h p = search (rules, IsUpTo-itself)

-- hearings between others have their ends
module _ {P Q : RecordHearing → Type 0} (among : (h : RecordHearing) → Q h → P h) (between : (h : RecordHearing) → P h → IsBetween Q h) (s : ℕ) where
  same_ends : (a b : Ends) → AreEnds P s a → AreEnds Q s b → a ≡ b
  same_ends a b p q =
      let l = between a.least p.least_there in
      let g = between a.greatest p.greatest_there in
      let least = same_heard a.least b.least (p.between b.least (among b.least q.least_there) q.least_in).0
      (IsUpTo-onward b.least l.least a.least (q.between l.least l.least_there (l.least_in ∙ p.least_in)).0 l.from_least) in
      let greatest = same_heard a.greatest b.greatest
      (IsUpTo-onward a.greatest g.greatest b.greatest g.to_greatest
      (q.between g.greatest g.greatest_there (g.greatest_in ∙ p.greatest_in)).1)
      (p.between b.greatest (among b.greatest q.greatest_there) q.greatest_in).1 in
      λ i. ends (least i) (greatest i)

  pub same_ends_in : (o p : Option Ends) → AreEndsIn P s o → AreEndsIn Q s p → o ≡ p
  same_ends_in None None u v = refl
  same_ends_in None (Some b) u v = absurd (u b.least (among b.least v.least_there) v.least_in)
  same_ends_in (Some a) None u v =
      let l = between a.least u.least_there in absurd (v l.least l.least_there (l.least_in ∙ u.least_in))
  same_ends_in (Some a) (Some b) u v = ap Some (same_ends a b u v)

-- ---- one hearing

only_by : (h : RecordHearing) (s : ℕ) (b : Bool) → is_eq (nat_cmp s (second_of h)) ≡ b
    → AreEndsIn (λ x. h ≡ x) s (cond b (Some (ends h h)) None)
only_by h s true e = grind (arith, exact_unsigned, is_Equal, IsUpTo-itself)
only_by h s false e = grind arith

pub at-only : (h : RecordHearing) (s : ℕ) → AreEndsIn (λ x. h ≡ x) s (value_at nat_cmp s (only h))
at-only h s = only_by h s (is_eq (nat_cmp s (second_of h))) refl

pub IsSeconds-only : (h : RecordHearing) → IsSeconds (only h)
IsSeconds-only h = IsJoinMap-one nat_cmp_total exact_unsigned ends-laws (second_of h) (ends h h) tt

-- ---- the seconds of a list

pub IsSeconds-of : (hs : List RecordHearing) → IsSeconds (seconds_of hs)
unfolding seconds_of
IsSeconds-of [] = IsJoinMap-none nat_cmp_total exact_unsigned ends-laws
IsSeconds-of (h ∷ hs) = search (arith, IsJoinMap-put, nat_cmp_total, exact_unsigned, ends-laws, IsSeconds-of hs)

pub IsSeconds-value : (hs : List RecordHearing) (value : Seconds) → seconds_of hs ≡ value → IsSeconds value
IsSeconds-value hs value view = subst IsSeconds view (IsSeconds-of hs)

pub at-seconds_of : (hs : List RecordHearing) (s : ℕ) → AreEndsIn (Contains hs) s (value_at nat_cmp s (seconds_of hs))
unfolding seconds_of
at-seconds_of [] s = λ h m _. Contains-nil h m
at-seconds_of (h ∷ hs) s =
    subst (λ (o : Option Ends). AreEndsIn (Contains (h ∷ hs)) s o)
    (sym (value_at-put nat_cmp_total exact_unsigned join_ends s (second_of h) (ends h h) (seconds_of hs) (IsSeconds-of hs).sorted))
    (ends-joined {P = Contains hs} {Q = λ x. h ≡ x} (λ x m. Contains-later h hs x m)
    (λ x e. subst (λ (y : RecordHearing). Contains (h ∷ hs) y) e (Contains-head h hs))
    (λ x m. elim (Contains-cases h hs x m) [ inl same ↦ inr same | inr rest ↦ inl rest ]) s
    (value_at nat_cmp s (seconds_of hs)) (value_at nat_cmp s (only h)) (at-seconds_of hs s) (at-only h s))

-- seconds with the same ends are the same
pub same_seconds : (xs ys : Seconds) → IsSeconds xs → IsSeconds ys
    → ((s : ℕ) → value_at nat_cmp s xs ≡ value_at nat_cmp s ys) → xs ≡ ys
same_seconds xs ys u v same = same_entries nat_cmp_total exact_unsigned xs ys u.sorted v.sorted same

-- the ends of a list's hearings have its seconds
pub seconds_of-ends : (hs es : List RecordHearing) → AreEndsOf hs es → seconds_of hs ≡ seconds_of es
seconds_of-ends hs es are = same_seconds (seconds_of hs) (seconds_of es) (IsSeconds-of hs) (IsSeconds-of es)
    (λ s. same_ends_in {P = Contains hs} {Q = Contains es} are.among are.between s (value_at nat_cmp s (seconds_of hs))
    (value_at nat_cmp s (seconds_of es)) (at-seconds_of hs s) (at-seconds_of es s))

pub seconds_of_moved : (xs ys : List RecordHearing) → IsPermutation xs ys → seconds_of ys ≡ seconds_of xs
seconds_of_moved xs ys moved = search (rules, seconds_of-ends, Contains-permutation, between-itself, IsPermutation-sym)

pub IsSeconds-join : (xs ys : Seconds) → IsSeconds xs → IsSeconds ys → IsSeconds (join_seconds xs ys)
IsSeconds-join xs ys u v = IsJoinMap-join nat_cmp_total exact_unsigned ends-laws xs ys u v

pub at-join : (s : ℕ) (xs ys : Seconds) → IsSeconds xs → IsSeconds ys
    → value_at nat_cmp s (join_seconds xs ys) ≡ joined_at join_ends (value_at nat_cmp s xs) (value_at nat_cmp s ys)
at-join s xs ys u v = value_at-join nat_cmp_total exact_unsigned join_ends s xs ys u.sorted v.sorted

pub seconds_of_append : (xs ys : List RecordHearing) → seconds_of (xs ++ ys) ≡ join_seconds (seconds_of xs) (seconds_of ys)
seconds_of_append xs ys =
    let u = IsSeconds-of xs in
    let v = IsSeconds-of ys in
    same_seconds (seconds_of (xs ++ ys)) (join_seconds (seconds_of xs) (seconds_of ys)) (IsSeconds-of (xs ++ ys))
    (IsSeconds-join (seconds_of xs) (seconds_of ys) u v)
    (λ s. same_ends_in {P = Contains (xs ++ ys)} {Q = Contains (xs ++ ys)} (λ h m. m) (λ h m. between-itself h m) s
    (value_at nat_cmp s (seconds_of (xs ++ ys))) (value_at nat_cmp s (join_seconds (seconds_of xs) (seconds_of ys)))
    (at-seconds_of (xs ++ ys) s)
    (subst (λ (o : Option Ends). AreEndsIn (Contains (xs ++ ys)) s o) (sym (at-join s (seconds_of xs) (seconds_of ys) u v))
    (ends-joined {P = Contains xs} {Q = Contains ys} (λ h m. Contains-append_left xs ys h m)
    (λ h m. Contains-append_right xs ys h m) (λ h m. Contains-append_cases xs ys h m) s (value_at nat_cmp s (seconds_of xs))
    (value_at nat_cmp s (seconds_of ys)) (at-seconds_of xs s) (at-seconds_of ys s))))

pub seconds_of-one : (h : RecordHearing) → seconds_of (h ∷ []) ≡ only h
unfolding seconds_of
seconds_of-one h = refl

pub seconds_of-push : (xs : List RecordHearing) (h : RecordHearing) → seconds_of (xs ++ h ∷ []) ≡ join_seconds (seconds_of xs) (only h)
seconds_of-push xs h = seconds_of_append xs (h ∷ []) ∙ ap (join_seconds (seconds_of xs)) (seconds_of-one h)

-- ---- hearings that are joined one by one

pub joined_none : (old : Seconds) → old ≡ join_seconds old (seconds_of [])
unfolding seconds_of
joined_none old = refl

pub joined_next : (old self new : Seconds) (hs : List RecordHearing) (i : ℕ) (h : RecordHearing) → IsSeconds old → i < length hs → h ≡ get_or hs i h
    → self ≡ join_seconds old (seconds_of (take i hs)) → new ≡ join_seconds self (only h)
    → new ≡ join_seconds old (seconds_of (take (i + 1) hs))
joined_next old self new hs i h u l is so_far next =
    let first = take i hs in
    let more : take (i + 1) hs ≡ first ++ h ∷ [] = take_more hs i h l ∙ ap (λ x. first ++ x ∷ []) (sym is) in
    next ∙ ap (λ s. join_seconds s (only h)) so_far
    ∙ seconds-laws.associative old (seconds_of first) (only h) u (IsSeconds-of first) (IsSeconds-only h)
    ∙ ap (join_seconds old) (sym (seconds_of-push first h)) ∙ ap (λ xs. join_seconds old (seconds_of xs)) (sym more)

-- some of them lie between
pub part_first : (old other new : Seconds) (hs : List RecordHearing) → IsSeconds old → seconds_of hs ≡ other → JoinsFirst old hs new
    → IsPartOfJoin join_seconds old other new
part_first old other new hs u is w = grind (
  arith,
  IsSeconds-of (take w.0 hs),
  IsSeconds-of (drop w.0 hs),
  seconds_of_append (take w.0 hs) (drop w.0 hs),
  take-append-drop w.0 hs,
  seconds-laws,
  IsAtMost-left,
  IsSeconds-join,
)

-- WHAT FUNCTIONS ARE PROVED BY

pub ruleset for_thin = (seconds_of-ends, seconds_of_moved)
