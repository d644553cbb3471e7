-- The hearings that contents stand for: none, one, and those of both sides of a join.
use Rattle.std.proofs.Common.{◌≡◌, ◌≢◌, ℕ, true, false, List, [], ◌∷◌, ◌++◌, Option, None, Some, Contains}
use Rattle.std.proofs.Common.{MatchOption, refl, sym, ap, ◌==◌, append-nil, ◌∙◌, subst, inl, inr, ◌⊎◌, arith, if◌then◌else◌, map}
use Rattle.std.specs.{List.{flat_map}, declared.cmp.Ordering.{Ordering}, declared.cmp.Ordering.TheVariants.{Less, Equal, Greater}}
use Rattle.std.specs.Ordering.{is_eq, is_gt, ordering_reverse, match_ordering}
use Rattle.std.proofs.lemmas.{Cmp.{upto, tied_itself}, List.{get_or-map, length-map}}
use Rattle.std.proofs.lemmas.List.Elements.{Contains-append_left, Contains-append_right, Contains-append_cases, Contains-push}
use Rattle.std.proofs.lemmas.{List.Elements.{Contains-push_cases}, Bool.{false≢true, and_parts, and_from, or_cases, or_right, eqb-true}}
use Rattle.std.proofs.lemmas.Bool.Decides.{nat_tests}
use Rattle.mdns_message.specs.{Resource.{set_key_of, set_key_cmp, IsOf, IsFlushOf}, declared.hearing.Hearing.{Hearing}}
use Rattle.mdns_message.specs.{declared.key.Key.{Key}, RecordSet.{RecordSet}, laws.Resource.{set_key_cmp-total, set_key_cmp-exact}}
use Rattle.mdns_join.specs.{declared.latest.Latest.{Latest}, Latest.{latest_cmp, later, latest_of}}
use Rattle.mdns_join.specs.{laws.Latest.{latest_cmp-total, latest_cmp-exact}, Kept.{has, newest, kept, union, kept_union, IsStale}}
use Rattle.mdns_join.specs.laws.Kept.{has-union, has-append, has-newest, has-le-newest, kept-same, kept_between, kept_union-kept}
use Rattle.join_map.specs.{Entries.{joined_at}, laws.Entries.{is_Equal}}
use Rattle.mdns_cache.specs.{Live.{is_flush_of, flush_moments, IsFlushedAt, IsUnheard, IsLast, SameHearings}, Contents.{kept_of}}
use Rattle.std.proofs.Common.{rules}

-- ---- orders

pub not_greater : (o : Ordering) → is_gt o ≡ false → o ≢ Greater
not_greater Less e p = cc
not_greater Equal e p = cc
not_greater Greater e p = cc

is_gt-false : (o : Ordering) → o ≢ Greater → is_gt o ≡ false
is_gt-false Less n = refl
is_gt-false Equal n = refl
is_gt-false Greater n = absurd (n refl)

pub reverse-greater : (o p : Ordering) → o ≡ ordering_reverse p → p ≡ Greater → o ≢ Greater
reverse-greater o p e g h = cc

reverse-both : (o p : Ordering) → o ≡ ordering_reverse p → o ≢ Greater → p ≢ Greater → o ≡ Equal
reverse-both o Less e n m = absurd (n e)
reverse-both o Equal e n m = e
reverse-both o Greater e n m = absurd (m refl)

pub Contains-nil : {X : Type 0} (h : X) → Contains [] h → ⊥
Contains-nil h m = absurd (omega (arith, m.1))

-- one of two is the later, and the other doesn't exceed it
pub data LaterIs (a b : Latest) : Latest → Type 0 where
  first : latest_cmp b a ≢ Greater → LaterIs a b a
  second : latest_cmp a b ≢ Greater → LaterIs a b b

pub later-is : (a b : Latest) → LaterIs a b (later a b)
later-is a b =
    elim (latest_cmp a b) as (λ o. latest_cmp a b ≡ o → LaterIs a b (match_ordering o b a a)) [
      | Less ↦ λ e. second (λ g. absurd (less_is_not (sym e ∙ g)))
      | Equal ↦ λ e. first (λ g. absurd (equal_is_not (sym (latest_cmp-total.antisymm b a ∙ ap ordering_reverse e) ∙ g)))
      | Greater ↦ λ e. first (reverse-greater _ _ (latest_cmp-total.antisymm b a) e)
    ] refl
  where
    less_is_not : Less ≡ Greater → ⊥
    less_is_not e = cc

    equal_is_not : Equal ≡ Greater → ⊥
    equal_is_not e = cc

pub latest-upto : (a b c : Latest) → latest_cmp a b ≢ Greater → latest_cmp b c ≢ Greater → latest_cmp a c ≢ Greater
latest-upto a b c p q = not_greater _ (upto latest_cmp-total a b c (is_gt-false _ p) (is_gt-false _ q))

latest-same : (a b : Latest) → latest_cmp a b ≢ Greater → latest_cmp b a ≢ Greater → a ≡ b
latest-same a b p q = latest_cmp-exact a b (reverse-both _ _ (latest_cmp-total.antisymm a b) p q)

-- ---- last hearings

-- the last hearing among other hearings
pub IsLast-in : (gs hs : List Hearing) (key : Key) (l : Latest) (p : IsLast gs key l) → Contains hs p.hearing
    → ((h : Hearing) → Contains hs h → IsOf key h → latest_cmp (latest_of h) l ≢ Greater) → IsLast hs key l
IsLast-in gs hs key l p among greatest = search rules

module _ (gs hs : List Hearing) (key : Key) where
  IsUnheard-append : IsUnheard gs key → IsUnheard hs key → IsUnheard (gs ++ hs) key
  IsUnheard-append p q h m o = elim (Contains-append_cases gs hs h m) [ inl a ↦ p h a o | inr b ↦ q h b o ]

  IsLast-left : (l : Latest) → IsLast gs key l → IsUnheard hs key → IsLast (gs ++ hs) key l
  IsLast-left l p q = IsLast-in gs (gs ++ hs) key l p (Contains-append_left gs hs p.hearing p.among)
      (λ h m o. elim (Contains-append_cases gs hs h m) [ inl a ↦ p.greatest h a o | inr b ↦ absurd (q h b o) ])

  IsLast-right : (l : Latest) → IsUnheard gs key → IsLast hs key l → IsLast (gs ++ hs) key l
  IsLast-right l p q = IsLast-in hs (gs ++ hs) key l q (Contains-append_right gs hs q.hearing q.among)
      (λ h m o. elim (Contains-append_cases gs hs h m) [ inl a ↦ absurd (p h a o) | inr b ↦ q.greatest h b o ])

  IsLast-later : (a b l : Latest) → LaterIs a b l → IsLast gs key a → IsLast hs key b → IsLast (gs ++ hs) key l
  IsLast-later a b l (first e) p q = IsLast-in gs (gs ++ hs) key a p (Contains-append_left gs hs p.hearing p.among)
      (λ h m o. elim (Contains-append_cases gs hs h m)
      [ inl x ↦ p.greatest h x o | inr y ↦ latest-upto (latest_of h) b a (q.greatest h y o) e ])
  IsLast-later a b l (second e) p q = IsLast-in hs (gs ++ hs) key b q (Contains-append_right gs hs q.hearing q.among)
      (λ h m o. elim (Contains-append_cases gs hs h m)
      [ inl x ↦ latest-upto (latest_of h) a b (p.greatest h x o) e | inr y ↦ q.greatest h y o ])

  pub lasts-append : (o p : Option Latest) → MatchOption o (IsUnheard gs key) (IsLast gs key)
      → MatchOption p (IsUnheard hs key) (IsLast hs key)
      → MatchOption (joined_at later o p) (IsUnheard (gs ++ hs) key) (IsLast (gs ++ hs) key)
  lasts-append None None u v = IsUnheard-append u v
  lasts-append None (Some b) u v = IsLast-right b u v
  lasts-append (Some a) None u v = IsLast-left a u v
  lasts-append (Some a) (Some b) u v = IsLast-later a b (later a b) (later-is a b) u v

-- `SameHearings` is reflexive and symmetric
pub same-itself : (heard : List Hearing) → SameHearings heard heard
same-itself heard = record { into = λ h m. m; back = λ h m. m }

pub same-back : (heard others : List Hearing) → SameHearings heard others → SameHearings others heard
same-back heard others s = record { into = s.back; back = s.into }

-- the last of a record in the same hearings is the same
module _ (gs hs : List Hearing) (same : SameHearings gs hs) (key : Key) where
  pub IsLast-same : (a b : Latest) → IsLast gs key a → IsLast hs key b → a ≡ b
  IsLast-same a b p q =
      let below : latest_cmp (latest_of q.hearing) a ≢ Greater = p.greatest q.hearing (same.back q.hearing q.among) q.of_record in
      let above : latest_cmp (latest_of p.hearing) b ≢ Greater = q.greatest p.hearing (same.into p.hearing p.among) p.of_record in
      latest-same a b (subst (λ (x : Latest). latest_cmp x b ≢ Greater) p.gives above)
      (subst (λ (x : Latest). latest_cmp x a ≢ Greater) q.gives below)

  pub IsLast-among : (l : Latest) → IsLast gs key l → IsLast hs key l
  IsLast-among l p = IsLast-in gs hs key l p (same.into p.hearing p.among) (λ h m. p.greatest h (same.back h m))

  pub lasts-same : (o p : Option Latest) → MatchOption o (IsUnheard gs key) (IsLast gs key)
      → MatchOption p (IsUnheard hs key) (IsLast hs key) → o ≡ p
  lasts-same None None u v = refl
  lasts-same None (Some b) u v = absurd (u v.hearing (same.back v.hearing v.among) v.of_record)
  lasts-same (Some a) None u v = absurd (v u.hearing (same.into u.hearing u.among) u.of_record)
  lasts-same (Some a) (Some b) u v = ap Some (IsLast-same a b u v)

-- ---- flush moments

pub flush_moments-append : (gs hs : List Hearing) (set : RecordSet)
    → flush_moments (gs ++ hs) set ≡ flush_moments gs set ++ flush_moments hs set
flush_moments-append [] hs set = refl
flush_moments-append (g ∷ gs) hs set = grind (arith, flush_moments-append gs hs set)

-- the moments kept of a union are those kept of the kept moments of both sides
kept-as_union : (xs ys zs : List ℕ) → ((m : ℕ) → has (union xs ys) m ≡ has zs m) → kept_union (kept xs) (kept ys) ≡ kept zs
kept-as_union xs ys zs e = kept_union-kept xs ys ∙ kept-same (union xs ys) zs (λ m h. sym (e m) ∙ h) (λ m h. e m ∙ h)

has_both : (xs ys : List ℕ) (m : ℕ) → has (union xs ys) m ≡ has (xs ++ ys) m
has_both xs ys m = has-union xs ys m ∙ sym (has-append xs ys m)

pub kept_of-append : (xs ys : List ℕ) → joined_at kept_union (kept_of xs) (kept_of ys) ≡ kept_of (xs ++ ys)
kept_of-append [] [] = refl
kept_of-append [] (y ∷ ys) = refl
kept_of-append (x ∷ xs) [] = ap (λ ms. Some (kept (x ∷ ms))) (sym (append-nil xs))
kept_of-append (x ∷ xs) (y ∷ ys) = ap Some (kept-as_union (x ∷ xs) (y ∷ ys) (x ∷ (xs ++ y ∷ ys)) (has_both (x ∷ xs) (y ∷ ys)))

pub has-head : (x : ℕ) (xs : List ℕ) → has (x ∷ xs) x ≡ true
has-head x xs = grind (arith, nat_tests)

pub has-one : (x m : ℕ) → has (x ∷ []) m ≡ true → x ≡ m
has-one x m h = grind (arith, nat_tests)

pub kept_of-between : (xs ys : List ℕ) → ((m : ℕ) → has xs m ≡ true → has ys m ≡ true)
    → ((m : ℕ) → has ys m ≡ true → (has xs m ≡ true) ⊎ IsStale ys m) → kept_of xs ≡ kept_of ys
kept_of-between [] [] into back = refl
kept_of-between [] (y ∷ ys) into back = elim (back (newest (y ∷ ys)) (has-newest (y ∷ ys) y (has-head y ys)))
    [ inl e ↦ absurd (false≢true e) | inr s ↦ absurd (omega (arith, s.after, has-le-newest (y ∷ ys) s.next s.among)) ]
kept_of-between (x ∷ xs) [] into back = absurd (false≢true (into x (has-head x xs)))
kept_of-between (x ∷ xs) (y ∷ ys) into back = ap Some (kept_between (x ∷ xs) (y ∷ ys) into back)

pub kept_of-same : (xs ys : List ℕ) → ((m : ℕ) → has xs m ≡ true → has ys m ≡ true)
    → ((m : ℕ) → has ys m ≡ true → has xs m ≡ true) → kept_of xs ≡ kept_of ys
kept_of-same xs ys into back = kept_of-between xs ys into (λ m h. inl (back m h))

-- a hearing among a longer list
pub Contains-head : {X : Type 0} (h : X) (hs : List X) → Contains (h ∷ hs) h
Contains-head h hs = Contains-append_left (h ∷ []) hs h (Contains-push [] h)

pub Contains-later : {X : Type 0} (g : X) (hs : List X) (h : X) → Contains hs h → Contains (g ∷ hs) h
Contains-later g hs h m = Contains-append_right (g ∷ []) hs h m

pub Contains-cases : {X : Type 0} (g : X) (hs : List X) (h : X) → Contains (g ∷ hs) h → (g ≡ h) ⊎ Contains hs h
Contains-cases g hs h m = grind (arith, Contains-append_cases, Contains-push_cases, Contains-nil)

pub Contains-map : {X Y : Type 0} (f : X → Y) (xs : List X) (x : X) → Contains xs x → Contains (map f xs) (f x)
Contains-map f xs x m = (m.0, omega (arith, length-map xs f, m.1), get_or-map f xs m.0 x (f x) m.1 ∙ ap f m.2)

pub from_map : {X Y : Type 0} (f : X → Y) (xs : List X) (y : Y) → Contains (map f xs) y → (x : X) × (f x ≡ y) × Contains xs x
from_map f [] y m = absurd (Contains-nil y m)
from_map f (x ∷ xs) y m = elim (Contains-cases (f x) (map f xs) y m) [
  | inl e ↦ (x, e, Contains-head x xs)
  | inr r ↦ (let w = from_map f xs y r in (w.0, w.1, Contains-later x xs w.0 w.2))
]

pub from_flat_map : {X Y : Type 0} (f : X → List Y) (xs : List X) (y : Y) → Contains (flat_map f xs) y
    → (x : X) × Contains xs x × Contains (f x) y
from_flat_map f [] y m = absurd (Contains-nil y m)
from_flat_map f (x ∷ xs) y m = elim (Contains-append_cases (f x) (flat_map f xs) y m) [
  | inl here ↦ (x, Contains-head x xs, here)
  | inr rest ↦ (let w = from_flat_map f xs y rest in (w.0, Contains-later x xs w.0 w.1, w.2))
]

pub Contains-flat_map : {X Y : Type 0} (f : X → List Y) (xs : List X) (x : X) (y : Y) → Contains xs x → Contains (f x) y
    → Contains (flat_map f xs) y
Contains-flat_map f [] x y m n = absurd (Contains-nil x m)
Contains-flat_map f (z ∷ zs) x y m n = elim (Contains-cases z zs x m) [
  | inl same ↦ Contains-append_left (f z) (flat_map f zs) y (subst (λ x. Contains (f x) y) (sym same) n)
  | inr rest ↦ Contains-append_right (f z) (flat_map f zs) y (Contains-flat_map f zs x y rest n)
]

-- the flush moments of a set are those at which some hearing is a flush of it
pub IsFlushedAt-in : (gs hs : List Hearing) (set : RecordSet) (m : ℕ) (f : IsFlushedAt gs set m) → Contains hs f.flush
    → IsFlushedAt hs set m
IsFlushedAt-in gs hs set m f among = record { flush = f.flush; among = among; of_set = f.of_set; at_it = f.at_it }

IsFlushedAt-later : (g : Hearing) (hs : List Hearing) (set : RecordSet) (m : ℕ) → IsFlushedAt hs set m → IsFlushedAt (g ∷ hs) set m
IsFlushedAt-later g hs set m f = IsFlushedAt-in hs (g ∷ hs) set m f (Contains-later g hs f.flush f.among)

pub IsFlushOf-from_test : (set : RecordSet) (h : Hearing) → is_flush_of set h ≡ true → IsFlushOf set h
IsFlushOf-from_test set h e =
    let parts = and_parts h.flush (is_eq (set_key_cmp set (set_key_of h.heard))) e in
    record {
      of_set =
          sym (set_key_cmp-exact set (set_key_of h.heard) (is_Equal (set_key_cmp set (set_key_of h.heard)) parts.1));
      flush = parts.0;
    }

pub test-from_IsFlushOf : (set : RecordSet) (h : Hearing) → IsFlushOf set h → is_flush_of set h ≡ true
test-from_IsFlushOf set h f = grind (arith, and_from, tied_itself set_key_cmp-total set)

pub IsFlushedAt-from_has : (heard : List Hearing) (set : RecordSet) (m : ℕ) → has (flush_moments heard set) m ≡ true → IsFlushedAt heard set m
IsFlushedAt-from_has [] set m h = absurd (false≢true h)
IsFlushedAt-from_has (g ∷ gs) set m h =
    elim (is_flush_of set g) as (λ t. is_flush_of set g ≡ t
    → has (if t then g.moment.nanos ∷ flush_moments gs set else flush_moments gs set) m ≡ true
    → IsFlushedAt (g ∷ gs) set m) [
      | true ↦ λ e p. elim (or_cases (g.moment.nanos == m) (has (flush_moments gs set) m) p) [
        | inl same ↦ record { flush = g; among = Contains-head g gs; of_set = IsFlushOf-from_test set g e; at_it = eqb-true _ _ same }
        | inr rest ↦ IsFlushedAt-later g gs set m (IsFlushedAt-from_has gs set m rest)
      ]
      | false ↦ λ e p. IsFlushedAt-later g gs set m (IsFlushedAt-from_has gs set m p)
    ] refl h

pub has-from_flush : (heard : List Hearing) (set : RecordSet) (h : Hearing) → Contains heard h → IsFlushOf set h
    → has (flush_moments heard set) h.moment.nanos ≡ true
has-from_flush [] set h m f = absurd (Contains-nil h m)
has-from_flush (g ∷ gs) set h m f =
    elim (Contains-cases g gs h m) [
      | inl e ↦ rw (subst (λ (x : Hearing). is_flush_of set x ≡ true) (sym e) (test-from_IsFlushOf set h f))
          (subst (λ (x : Hearing). has (g.moment.nanos ∷ flush_moments gs set) x.moment.nanos ≡ true) e
          (has-head g.moment.nanos (flush_moments gs set)))
      | inr r ↦ has-more g gs set h.moment.nanos (has-from_flush gs set h r f)
    ]
  where
    has-more : (g : Hearing) (gs : List Hearing) (set : RecordSet) (m : ℕ) → has (flush_moments gs set) m ≡ true
        → has (flush_moments (g ∷ gs) set) m ≡ true
    has-more g gs set m p =
        elim (is_flush_of set g) as (λ t.
        has (if t then g.moment.nanos ∷ flush_moments gs set else flush_moments gs set) m ≡ true)
        [ true ↦ or_right (g.moment.nanos == m) (has (flush_moments gs set) m) p | false ↦ p ]

pub has-from_flushed : (heard : List Hearing) (set : RecordSet) (m : ℕ) → IsFlushedAt heard set m → has (flush_moments heard set) m ≡ true
has-from_flushed heard set m f = grind (arith, has-from_flush)

-- WHAT FUNCTIONS ARE PROVED BY

pub ruleset for_order_and_repeats = (same-itself, same-back)
