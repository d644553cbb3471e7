-- Ascending lists of moments: the place of a moment, inserting one, and the front that is dropped.
use Rattle.std.proofs.Common.{◌≡◌, ◌≢◌, ℕ, zero, suc, ◌+◌, ◌-◌, ◌<◌, ◌≤◌, Bool, true, false, cond, ◌||◌, ◌==◌, nat_lt, leb-true}
use Rattle.std.proofs.Common.{◌⊎◌, List, [], ◌∷◌, ◌++◌, length, get_or, take, drop, insert, refl, sym, ap, ◌∙◌, subst}
use Rattle.std.proofs.Common.{inl, inr, arith, true≢false, ltb-true, ltb-false, eqb-true, lt-ltb, Result, Ok, Err, OnOk, OnErr}
use Rattle.std.proofs.lemmas.{Bool.{or_cases, or_right, cases_Bool, cases_lt}, Bool.Decides.{nat_tests}, Grind.{take_at_read}}
use Rattle.std.proofs.lemmas.List.{take-map, drop-map, map-append, get_or-map, length-map}
use Rattle.std.specs.{Bool.{OnTrue, OnFalse}, List.Sorted.{IsPartitionPoint, IsPartitionedBy}, Cmp.Lexicographic.{pointwise}}
use Rattle.std.specs.Prelude.{nat_eq, ◌&&◌}
use Rattle.mdns_capture.specs.{declared.moment.Moment.{Moment}, Limits.{second}}
use Rattle.mdns_join.specs.{Nanos.{nanos_of}, Kept.{has, newest, IsAscending, IsAscendingAbove, IsGreatest, put, place_of, union, kept}}
use Rattle.mdns_join.specs.{Kept.{kept_union, IsKeptList, IsStale, IsAbsorbed}, laws.Kept.{has-append, has-put, IsAscending-put}}
use Rattle.mdns_join.specs.laws.Kept.{IsAscending-union, IsAscending-kept, IsAscending-from_above, IsAscendingAbove-has, IsStale-up}
use Rattle.mdns_join.specs.laws.Kept.{has-le-newest, same_ascending, kept_between, kept_from_heard, heard_from_kept, kept_kept, has-newest}
use Rattle.mdns_join.specs.laws.Kept.{not_stale_from_kept, union_left, union_right, union_parts, IsAscending-from_kept}

-- ---- the place of a moment

-- a partition point by the bound is the place
pub place_of-point : (bound : ℕ) (items : List Moment) (i : ℕ) → i ≤ length items
    → IsPartitionPoint (λ (m : Moment). nat_lt m.nanos bound ≡ true) (λ (m : Moment). nat_lt m.nanos bound ≡ false)
    items i → i ≡ place_of bound (nanos_of items)
place_of-point bound [] i l point = omega arith
place_of-point bound (x ∷ xs) zero l point = grind (arith, nat_lt, point.1 0 x)
place_of-point bound (x ∷ xs) (suc i) l point =
    let rest = place_of-point bound xs i (omega arith) (
      λ k d p q. point.0 (suc k) d (omega arith) (omega arith),
      λ k d p q. point.1 (suc k) d (omega arith) (omega arith),
    ) in
    grind (arith, nat_lt, point.0 0 x, rest)

-- the moment at the place isn't earlier than the bound
pub place_above : (bound : ℕ) (xs : List ℕ) (d : ℕ) → place_of bound xs < length xs → bound ≤ get_or xs (place_of bound xs) d
place_above bound [] d l = absurd (omega arith)
place_above bound (x ∷ xs) d l = grind (arith, nat_tests, place_above bound xs d)

pub has-get_or : (xs : List ℕ) (i d : ℕ) → i < length xs → has xs (get_or xs i d) ≡ true
has-get_or [] i d l = absurd (omega arith)
has-get_or (x ∷ xs) zero d l = grind (arith, nat_tests)
has-get_or (x ∷ xs) (suc i) d l = grind (arith, nat_tests, has-get_or xs i d (omega arith))

absent_above : (m low : ℕ) (xs : List ℕ) → IsAscendingAbove low xs → m ≤ low → has xs m ≡ false
absent_above m low xs a l = elim (cases_Bool (has xs m)) [ inl e ↦ absurd (omega (arith, IsAscendingAbove-has low xs m a e)) | inr e ↦ e ]

-- a moment that isn't at its place isn't in the list
pub place_absent : (m : ℕ) (xs : List ℕ) → IsAscending xs
    → (length xs ≤ place_of m xs) ⊎ (get_or xs (place_of m xs) 0 ≢ m) → has xs m ≡ false
place_absent m [] a h = refl
place_absent m (x ∷ xs) a h =
    grind (arith, nat_tests, absent_above m x xs a, place_absent m xs (IsAscending-from_above x xs a))

-- one more moment goes to its place
pub insert-place : (m : ℕ) (xs : List ℕ) → has xs m ≡ false → insert xs (place_of m xs) m ≡ put m xs
insert-place m [] h = refl
insert-place m (x ∷ xs) h = grind (arith, nat_tests, insert-place m xs)

insert_nanos : (items : List Moment) (i : ℕ) (m : Moment) → nanos_of (insert items i m) ≡ insert (nanos_of items) i m.nanos
insert_nanos items i m = grind (arith, map-append, take-map, drop-map)

-- ---- one more moment

put_union : (m : ℕ) (xs : List ℕ) → IsAscending xs → put m xs ≡ union xs (m ∷ [])
put_union m xs a = grind (
  arith,
  same_ascending,
  IsAscending-put m xs a,
  IsAscending-union xs (m ∷ []),
  or_cases,
  has-put,
  union_right,
  union_left,
  union_parts,
  nat_tests,
)

-- what is absorbed adds nothing
pub absorbed : (xs ys : List ℕ) → IsKeptList xs → ((m : ℕ) → has ys m ≡ true → IsAbsorbed xs m) → xs ≡ kept_union xs ys
absorbed xs ys k all =
    sym k ∙ kept_between xs (union xs ys) (union_left xs ys)
    (λ m h. elim (union_parts xs ys m h) [
      | inl e ↦ inl e
      | inr e ↦ elim (all m e) [ inl f ↦ inl f | inr s ↦ inr (IsStale-up xs (union xs ys) m (union_left xs ys) s) ]
    ])

-- a moment a second or more after the greatest one: only these two are kept
pub kept_two : (xs : List ℕ) (l m : ℕ) → IsGreatest xs l → l + second ≤ m → l ∷ m ∷ [] ≡ kept_union xs (m ∷ [])
kept_two xs l m top gap =
    let all = union xs (m ∷ []) in
    let later : has all m ≡ true = union_right xs (m ∷ []) m (first m []) in
    let upto : (q : ℕ) → has all q ≡ true → (q ≤ l) ⊎ (m ≡ q) = λ q h. elim (union_parts xs (m ∷ []) q h)
    [ inl e ↦ inl (omega (arith, has-le-newest xs q e, top.greatest)) | inr e ↦ inr (only q e) ] in
    let ends : newest all ≡ m = elim (upto (newest all) (has-newest all m later))
    [ inl e ↦ omega (arith, e, gap, has-le-newest all m later) | inr e ↦ sym e ] in
    same_ascending (l ∷ m ∷ []) (kept all) (omega (arith, gap), tt) (IsAscending-kept all)
    (λ q h. elim (or_cases (l == q) (has (m ∷ []) q) h) [
      | inl e ↦ kept_from_heard all q (union_left xs (m ∷ []) q (subst (λ n. has xs n ≡ true) (eqb-true l q e) top.among))
          (λ s. elim (upto s.next s.among) [
            | inl f ↦ omega (arith, f, s.after, eqb-true l q e)
            | inr f ↦ omega (arith, f, s.old, ends)
          ])
      | inr e ↦ kept_from_heard all q (union_right xs (m ∷ []) q e)
          (λ s. omega (arith, s.after, s.old, ends, only q e))
    ])
    (λ q h. elim (upto q (heard_from_kept all q h)) [
      | inl e ↦ elim (cases_lt q l) [
        | inl f ↦ absurd (not_stale_from_kept all q h (record {
          next = l;
          among = union_left xs (m ∷ []) l top.among;
          after = f;
          old = omega (arith, gap, ends);
        }))
        | inr f ↦ subst (λ n. has (l ∷ m ∷ []) n ≡ true) (let same : l ≡ q = omega (arith, e, f) in same) (first l (m ∷ []))
      ]
      | inr e ↦ subst (λ n. has (l ∷ m ∷ []) n ≡ true) e (or_right (l == m) (has (m ∷ []) m) (first m []))
    ]) where
      first : (n : ℕ) (ns : List ℕ) → has (n ∷ ns) n ≡ true
      first n ns = grind (arith, nat_tests)

      only : (q : ℕ) → has (m ∷ []) q ≡ true → m ≡ q
      only q e = grind (arith, nat_tests)

-- after an insertion at its place
pub put_at_place : (items new : List Moment) (i : ℕ) (m : Moment) → IsAscending (nanos_of items)
    → i ≡ place_of m.nanos (nanos_of items) → has (nanos_of items) m.nanos ≡ false → new ≡ insert items i m
    → nanos_of new ≡ union (nanos_of items) (m.nanos ∷ [])
put_at_place items new i m a at none is = grind (arith, insert_nanos, at, insert-place, put_union)

-- ---- the front that is dropped

-- where nothing is stale, all is kept
kept_all : (xs : List ℕ) → IsAscending xs → ((m : ℕ) → has xs m ≡ true → IsStale xs m → ⊥) → kept xs ≡ xs
kept_all xs a none = same_ascending (kept xs) xs (IsAscending-kept xs) a (heard_from_kept xs) (λ q h. kept_from_heard xs q h (none q h))

-- the first of two is stale, where the second is a second or more older than the greatest
kept_tail : (x y : ℕ) (ys : List ℕ) → IsAscending (x ∷ y ∷ ys) → y + second ≤ newest (x ∷ y ∷ ys) → kept (y ∷ ys) ≡ kept (x ∷ y ∷ ys)
kept_tail x y ys a old = kept_between (y ∷ ys) (x ∷ y ∷ ys) (λ m h. more m (has (y ∷ ys) m) h)
    (λ m h. elim (or_cases (x == m) (has (y ∷ ys) m) h) [
      | inl e ↦ inr (record { next = y; among = second_there; after = omega (arith, eqb-true x m e, a.0); old = old })
      | inr e ↦ inl e
    ]) where
      more : (m : ℕ) (b : Bool) → b ≡ true → ((x == m) || b) ≡ true
      more m true h = grind (arith, nat_tests)
      more m false h = absurd (true≢false (sym h))

      second_there : has (x ∷ y ∷ ys) y ≡ true
      second_there = grind (arith, nat_tests)

newest_tail : (x y : ℕ) (ys : List ℕ) → IsAscending (x ∷ y ∷ ys) → newest (x ∷ y ∷ ys) ≡ newest (y ∷ ys)
newest_tail x y ys a = omega (arith, a.0)

first_not_old : (x : ℕ) (xs : List ℕ) (bound m : ℕ) → IsAscending (x ∷ xs) → bound ≤ x → has (x ∷ xs) m ≡ true → bound ≤ m
first_not_old x xs bound m a l h = grind (arith, or_cases, eqb-true, IsAscendingAbove-has)

-- at most the first is a second or more older than the greatest
no_stale : (x : ℕ) (xs : List ℕ) → IsAscending (x ∷ xs) → ((n : ℕ) → has xs n ≡ true → newest (x ∷ xs) < n + second)
    → (m : ℕ) → has (x ∷ xs) m ≡ true → IsStale (x ∷ xs) m → ⊥
no_stale x xs a recent m h s = grind (arith, or_cases, eqb-true, IsAscendingAbove-has)

front_by : (b c : Bool) (x y bound p : ℕ) (ys : List ℕ) → nat_lt x bound ≡ b → nat_lt y bound ≡ c
    → IsAscending (x ∷ y ∷ ys)
    → ((n : ℕ) → (newest (x ∷ y ∷ ys) < n + second → bound ≤ n) × (bound ≤ n → newest (x ∷ y ∷ ys) < n + second))
    → kept (y ∷ ys) ≡ drop (cond c (suc p) 0 - 1) (y ∷ ys)
    → kept (x ∷ y ∷ ys) ≡ drop (cond b (suc (cond c (suc p) 0)) 0 - 1) (x ∷ y ∷ ys)
front_by true true x y bound p ys e f a by rest =
    sym (kept_tail x y ys a (elim (cases_lt (newest (x ∷ y ∷ ys)) (y + second))
    [ inl l ↦ absurd (omega (arith, (by y).0 l, ltb-true y bound f)) | inr l ↦ l ]))
    ∙ rest ∙ step where
      step : drop (suc p - 1) (y ∷ ys) ≡ drop (suc (suc p) - 1) (x ∷ y ∷ ys)
      step = let same : suc (suc p - 1) ≡ suc (suc p) - 1 = omega arith in ap (λ i. drop i (x ∷ y ∷ ys)) same
front_by true false x y bound p ys e f a by rest =
    kept_all (x ∷ y ∷ ys) a
    (no_stale x (y ∷ ys) a (λ n h. (by n).1 (first_not_old y ys bound n (IsAscending-from_above x (y ∷ ys) a)
    (ltb-false y bound f) h)))
front_by false c x y bound p ys e f a by rest =
    kept_all (x ∷ y ∷ ys) a
    (no_stale x (y ∷ ys) a
    (λ n h. (by n).1 (omega (arith, ltb-false x bound e, IsAscendingAbove-has x (y ∷ ys) n a h))))

-- all are kept but those before the greatest of the ones that are a second or more older than the greatest
front_kept : (bound : ℕ) (xs : List ℕ) → IsAscending xs
    → ((n : ℕ) → (newest xs < n + second → bound ≤ n) × (bound ≤ n → newest xs < n + second))
    → kept xs ≡ drop (place_of bound xs - 1) xs
front_kept bound [] a by = kept_all [] a (λ m h. absurd (true≢false (sym h)))
front_kept bound (x ∷ []) a by = grind (arith, kept_all, no_stale, nat_lt)
front_kept bound (x ∷ y ∷ ys) a by =
    let same = newest_tail x y ys a in
    front_by (nat_lt x bound) (nat_lt y bound) x y bound (place_of bound ys) ys refl refl a by
    (front_kept bound (y ∷ ys) (IsAscending-from_above x (y ∷ ys) a)
    (λ n. (λ l. (by n).0 (omega (arith, l, same)), λ l. omega (arith, (by n).1 l, same))))

pub kept-front : (xs : List ℕ) → IsAscending xs → kept xs ≡ drop (place_of (newest xs + 1 - second) xs - 1) xs
kept-front xs a = front_kept (newest xs + 1 - second) xs a (λ n. (λ l. omega (arith, l), λ l. omega (arith, l)))

-- ---- the same of moments

pub length_nanos : (items : List Moment) → length (nanos_of items) ≡ length items
length_nanos items = length-map items (λ (m : Moment). m.nanos)

at_nanos : (items : List Moment) (i d : ℕ) (x : Moment) → i < length items → x ≡ get_or items i x → get_or (nanos_of items) i d ≡ x.nanos
at_nanos items i d x l e = get_or-map (λ (m : Moment). m.nanos) items i x d l ∙ sym (ap (λ (m : Moment). m.nanos) e)

pub has_item : (items : List Moment) (i : ℕ) (x : Moment) → i < length items → x ≡ get_or items i x → has (nanos_of items) x.nanos ≡ true
has_item items i x l e =
    ap (has (nanos_of items)) (sym (at_nanos items i 0 x l e)) ∙ has-get_or (nanos_of items) i 0 (omega (arith, length_nanos items))

pub absent_past : (items : List Moment) (at m : ℕ) → IsAscending (nanos_of items) → at ≡ place_of m (nanos_of items)
    → length items ≤ at → has (nanos_of items) m ≡ false
absent_past items at m a e l = place_absent m (nanos_of items) a (inl (omega (arith, length_nanos items)))

pub absent_apart : (items : List Moment) (at m : ℕ) (x : Moment) → IsAscending (nanos_of items)
    → at ≡ place_of m (nanos_of items) → at < length items → x ≡ get_or items at x → x.nanos ≢ m
    → has (nanos_of items) m ≡ false
absent_apart items at m x a e l f n =
    place_absent m (nanos_of items) a (inr (λ g. n (sym (at_nanos items at 0 x l f) ∙ ap (λ i. get_or (nanos_of items) i 0) e ∙ g)))

pub stale_here : (items : List Moment) (at m y : ℕ) (x : Moment) → at ≡ place_of m (nanos_of items)
    → at < length items → x ≡ get_or items at x → x.nanos ≢ m → has (nanos_of items) y ≡ true → x.nanos + second ≤ y
    → IsStale (nanos_of items) m
stale_here items at m y x e l f n h o =
    let lower : m ≤ x.nanos = omega (
      arith,
      place_above m (nanos_of items) 0 (omega (arith, length_nanos items)),
      sym (at_nanos items at 0 x l f) ∙ ap (λ i. get_or (nanos_of items) i 0) e,
    ) in
    let top : y ≤ newest (nanos_of items) = has-le-newest (nanos_of items) y h in
    record {
      next = x.nanos;
      among = has_item items at x l f;
      after = apart m x.nanos lower (λ g. n (sym g));
      old = omega (arith, top, o);
    } where
      apart : (a b : ℕ) → a ≤ b → a ≢ b → a < b
      apart a b p q = elim (cases_lt a b) [ inl r ↦ r | inr r ↦ absurd (q (omega arith)) ]

last_newest : (xs : List ℕ) (d : ℕ) → IsAscending xs → 0 < length xs → get_or xs (length xs - 1) d ≡ newest xs
last_newest [] d a l = absurd (omega arith)
last_newest (x ∷ []) d a l = omega arith
last_newest (x ∷ y ∷ ys) d a l =
    let same : length (x ∷ y ∷ ys) - 1 ≡ suc (length (y ∷ ys) - 1) = omega arith in
    ap (λ i. get_or (x ∷ y ∷ ys) i d) same ∙ last_newest (y ∷ ys) d (IsAscending-from_above x (y ∷ ys) a)
    (omega arith) ∙ sym (newest_tail x y ys a)

pub last_item : (items : List Moment) (i : ℕ) (x : Moment) → IsAscending (nanos_of items) → 0 < length items
    → i ≡ length items - 1 → x ≡ get_or items i x → x.nanos ≡ newest (nanos_of items)
last_item items i x a l e f =
    sym (at_nanos items i 0 x (omega arith) f) ∙ ap (λ j. get_or (nanos_of items) j 0) (e
    ∙ ap (λ n. n - 1) (sym (length_nanos items)))
    ∙ last_newest (nanos_of items) 0 a (omega (arith, length_nanos items))

-- the last of ascending moments is the greatest
pub last_greatest : (items : List Moment) (x : Moment) → IsAscending (nanos_of items) → 0 < length items
    → x ≡ get_or items (length items - 1) x → IsGreatest (nanos_of items) x.nanos
last_greatest items x a l e = grind (arith, has_item, last_item)

-- of fewer than two moments all are kept
pub kept_few : (items : List Moment) → length items < 2 → nanos_of items ≡ kept (nanos_of items)
kept_few [] l = sym (kept_all [] tt (λ m h. absurd (true≢false (sym h))))
kept_few (x ∷ []) l = sym (kept_all (x.nanos ∷ []) tt (no_stale x.nanos [] tt (λ n h. absurd (true≢false (sym h)))))
kept_few (x ∷ y ∷ ys) l = absurd (omega arith)

place_second : (bound : ℕ) (xs : List ℕ) (d : ℕ) → 1 < length xs → bound ≤ get_or xs 1 d → 0 ≡ place_of bound xs - 1
place_second bound [] d l h = absurd (omega arith)
place_second bound (x ∷ []) d l h = absurd (omega arith)
place_second bound (x ∷ y ∷ ys) d l h = grind (arith, nat_lt, cases_Bool, ltb-true)

-- where the second moment is less than one second older than the greatest, all are kept
pub kept_second : (items : List Moment) (x : Moment) (last recent : ℕ) → IsAscending (nanos_of items)
    → 1 < length items → last ≡ newest (nanos_of items) → recent ≡ last + 1 - second → x ≡ get_or items 1 x
    → recent ≤ x.nanos → kept (nanos_of items) ≡ nanos_of items
kept_second items x last recent a l top is at h =
    let bound : newest (nanos_of items) + 1 - second ≡ recent = sym (is ∙ ap (λ t. t + 1 - second) top) in
    kept-front (nanos_of items) a
    ∙ ap (λ n. drop n (nanos_of items))
    (sym (place_second (newest (nanos_of items) + 1 - second) (nanos_of items) 0 (omega (arith, length_nanos items))
    (omega (arith, bound, h, at_nanos items 1 0 x l at))))

-- the moments that are kept are those after a front that is dropped
pub kept_rest : (items : List Moment) (last older n : ℕ) → IsAscending (nanos_of items)
    → last ≡ newest (nanos_of items) → older ≡ place_of (last + 1 - second) (nanos_of items) → n ≡ older - 1
    → kept (nanos_of items) ≡ drop n (nanos_of items)
kept_rest items last older n a top at less = grind (arith, at, kept-front)

-- the items after the front was dropped
pub kept_dropped : (items new : List Moment) (n : ℕ) → kept (nanos_of items) ≡ drop n (nanos_of items)
    → new ≡ drop n items → nanos_of new ≡ kept (nanos_of items)
kept_dropped items new n front is = ap nanos_of is ∙ sym (drop-map (λ (m : Moment). m.nanos) n items) ∙ sym front

pub on_true : (b : Bool) (P : Type 0) → (b ≡ true → P) → OnTrue b P
on_true true P h = h refl
on_true false P h = tt

pub on_false : (b : Bool) (P : Type 0) → (b ≡ false → P) → OnFalse b P
on_false true P h = tt
on_false false P h = h refl

items_rise : (items : List Moment) (i j : ℕ) (d : Moment) → IsAscending (nanos_of items) → i ≤ j → j < length items
    → (get_or items i d).nanos ≤ (get_or items j d).nanos
items_rise [] i j d a l h = absurd (omega arith)
items_rise (x ∷ xs) zero zero d a l h = omega arith
items_rise (x ∷ xs) zero (suc j) d a l h =
    grind (arith, get_or-map, has-get_or (nanos_of xs) j 0 (omega (arith, length_nanos xs)), length_nanos xs, IsAscendingAbove-has)
items_rise (x ∷ xs) (suc i) zero d a l h = absurd (omega arith)
items_rise (x ∷ xs) (suc i) (suc j) d a l h = items_rise xs i j d (IsAscending-from_above x.nanos (nanos_of xs) a)
    (omega arith) (omega arith)

pub ascending_point : (bound : ℕ) (items : List Moment) → IsAscending (nanos_of items)
    → IsPartitionedBy (λ (m : Moment). nat_lt m.nanos bound) items
ascending_point bound items a i j d l h k =
    lt-ltb (get_or items i d).nanos bound (omega (arith, items_rise items i j d a l h, ltb-true (get_or items j d).nanos bound k))

pub absorbed_one : (xs : List ℕ) (m : ℕ) → IsKeptList xs → IsAbsorbed xs m → xs ≡ kept_union xs (m ∷ [])
absorbed_one xs m k h = absorbed xs (m ∷ []) k (λ q e. at q (only q e)) where
  only : (q : ℕ) → has (m ∷ []) q ≡ true → m ≡ q
  only q e = grind (arith, nat_tests)

  at : (q : ℕ) → m ≡ q → IsAbsorbed xs q
  at q e = subst (IsAbsorbed xs) e h

-- ---- a walk over moments

nanos_push : (items : List Moment) (x : Moment) → nanos_of (items ++ x ∷ []) ≡ nanos_of items ++ x.nanos ∷ []
nanos_push items x = map-append (λ (m : Moment). m.nanos) items (x ∷ [])

take_push : (items : List Moment) (i : ℕ) (x : Moment) → i < length items → x ≡ get_or items i x
    → take (i + 1) items ≡ take i items ++ x ∷ []
take_push items i x l e = (take_at_read items i x l).1 ∙ ap (λ y. take i items ++ y ∷ []) (sym e)

pub absorbed_more : (xs : List ℕ) (others : List Moment) (i : ℕ) (x : Moment) → i < length others
    → x ≡ get_or others i x → ((m : ℕ) → has (nanos_of (take i others)) m ≡ true → IsAbsorbed xs m)
    → IsAbsorbed xs x.nanos
    → (m : ℕ) → has (nanos_of (take (i + 1) others)) m ≡ true → IsAbsorbed xs m
absorbed_more xs others i x l e before here m h =
    let shown : has (nanos_of (take (i + 1) others)) m ≡ (has (nanos_of (take i others)) m || has (x.nanos ∷ []) m) =
    ap (λ (ys : List Moment). has (nanos_of ys) m) (take_push others i x l e)
    ∙ ap (λ ys. has ys m) (nanos_push (take i others) x)
    ∙ has-append (nanos_of (take i others)) (x.nanos ∷ []) m in
    elim (or_cases (has (nanos_of (take i others)) m) (has (x.nanos ∷ []) m) (sym shown ∙ h)) [
      | inl f ↦ before m f
      | inr f ↦ subst (IsAbsorbed xs) (only f) here
    ] where
      only : has (x.nanos ∷ []) m ≡ true → x.nanos ≡ m
      only f = grind (arith, nat_tests)

-- ---- after a call that joined, or was refused

pub kept_after : {E : Type 0} (r : Result (Unit {0}) E) (items new : List Moment) (ys : List ℕ)
    → IsKeptList (nanos_of items) → OnOk r (nanos_of new ≡ kept_union (nanos_of items) ys) → OnErr r (new ≡ items)
    → IsKeptList (nanos_of new)
kept_after (Ok x) items new ys k ok err = subst IsKeptList (sym ok) (kept_kept (union (nanos_of items) ys))
kept_after (Err x) items new ys k ok err = subst (λ (zs : List Moment). IsKeptList (nanos_of zs)) (sym err) k

-- ---- equal lists

pub pointwise-nanos : (xs ys : List Moment)
    → pointwise (λ (a b : Moment). a.nanos == b.nanos) xs ys ≡ pointwise nat_eq (nanos_of xs) (nanos_of ys)
pointwise-nanos [] [] = refl
pointwise-nanos [] (y ∷ ys) = refl
pointwise-nanos (x ∷ xs) [] = refl
pointwise-nanos (x ∷ xs) (y ∷ ys) = ap (λ b. (x.nanos == y.nanos) && b) (pointwise-nanos xs ys)

pub ruleset for_add = (absorbed_one, kept_two, IsAscending-from_kept)

pub ruleset ascending_if_kept = (IsAscending-from_kept)

pub ruleset for_unkept = (kept_few, kept_second, kept_rest, last_item)

pub ruleset for_absorbs = (absent_past, absent_apart, has_item, stale_here, on_true, on_false, leb-true)
