-- Laws of `kept` and `union`: only membership counts, and no dropped moment is ever needed again.
use Rattle.std.specs.Prelude.{◌≡◌, ℕ, ◌+◌, ◌<◌, ◌≤◌, Bool, true, false, ◌||◌, ◌&&◌, ◌==◌, nat_lt, nat_le}
use Rattle.std.specs.{Prelude.{cond, ◌⊎◌, ◌↔◌, List, [], ◌∷◌, ◌++◌}, List.{filter}}
use Rattle.std.proofs.Common.{refl, sym, ap, ◌∙◌, subst, inl, inr, arith, true≢false, ltb-true, leb-true, leb-false}
use Rattle.std.proofs.Common.{le-leb, eqb-true, eq-eqb}
use Rattle.std.proofs.lemmas.{Bool.{or_cases, and_parts, and_from, cases_Bool, cases_lt, cond_both}, Bool.Decides.{nat_tests}}
use Rattle.mdns_capture.specs.{declared.moment.Moment.{Moment}, Limits.{second}}
use Rattle.mdns_join.specs.{Nanos.{nanos_of}, Kept.{has, newest, IsKept, IsAscendingAbove, IsAscending, put, ascending, union, older_of}}
use Rattle.mdns_join.specs.Kept.{is_kept, kept, IsKeptList, kept_union, IsStruckBy, IsStale}
use Rattle.join_map.specs.Join.{JoinLaws}

-- ---- membership

pub has-put : (m : ℕ) (xs : List ℕ) (q : ℕ) → has (put m xs) q ≡ ((m == q) || has xs q)
has-put m [] q = refl
has-put m (x ∷ xs) q = grind (arith, nat_tests, has-put m xs q)

pub has-ascending : (xs : List ℕ) (q : ℕ) → has (ascending xs) q ≡ has xs q
has-ascending [] q = refl
has-ascending (x ∷ xs) q = has-put x (ascending xs) q ∙ ap (λ b. (x == q) || b) (has-ascending xs q)

pub has-append : (xs ys : List ℕ) (q : ℕ) → has (xs ++ ys) q ≡ (has xs q || has ys q)
has-append [] ys q = refl
has-append (x ∷ xs) ys q = grind (arith, nat_tests, has-append xs ys q)

pub has-union : (xs ys : List ℕ) (q : ℕ) → has (union xs ys) q ≡ (has xs q || has ys q)
unfolding union
has-union xs ys q = has-ascending (xs ++ ys) q ∙ has-append xs ys q

or_left : (a b : Bool) → a ≡ true → (a || b) ≡ true
or_left true b h = refl
or_left false b h = absurd (true≢false (sym h))

or_right : (a b : Bool) → b ≡ true → (a || b) ≡ true
or_right true b h = refl
or_right false b h = h

or_false : (a b : Bool) → (a || b) ≡ false → (a ≡ false) × (b ≡ false)
or_false true b h = absurd (true≢false h)
or_false false b h = (refl, h)

filter_step : (b c d e : Bool) (x : ℕ) (xs : List ℕ) (q : ℕ) → (x ≡ q → b ≡ c) → has xs q ≡ (e && c)
    → has (cond b (x ∷ xs) xs) q ≡ (((x == q) || e) && c)
filter_step true c d e x xs q same rest = grind (arith, nat_tests)
filter_step false c d e x xs q same rest = grind (arith, nat_tests)

pub has-filter : (p : ℕ → Bool) (xs : List ℕ) (q : ℕ) → has (filter p xs) q ≡ (has xs q && p q)
has-filter p [] q = refl
has-filter p (x ∷ xs) q = filter_step (p x) (p q) true (has xs q) x (filter p xs) q (λ e. ap p e) (has-filter p xs q)

-- ---- ascending lists

pub IsAscendingAbove-weaken : (low high : ℕ) (xs : List ℕ) → low ≤ high → IsAscendingAbove high xs → IsAscendingAbove low xs
IsAscendingAbove-weaken low high [] l a = tt
IsAscendingAbove-weaken low high (x ∷ xs) l a = (omega (arith, a.0), a.1)

pub IsAscending-from_above : (low : ℕ) (xs : List ℕ) → IsAscendingAbove low xs → IsAscending xs
IsAscending-from_above low [] a = tt
IsAscending-from_above low (x ∷ xs) a = a.1

pub IsAscendingAbove-put : (low m : ℕ) (xs : List ℕ) → low < m → IsAscendingAbove low xs → IsAscendingAbove low (put m xs)
IsAscendingAbove-put low m [] l a = (l, tt)
IsAscendingAbove-put low m (x ∷ xs) l a =
    let P : List ℕ → Type 0 = IsAscendingAbove low in
    cond_both (nat_lt m x) _ _ P (λ e. (l, (ltb-true m x e, a.1)))
    (λ e. cond_both (m == x) _ _ P (λ _. a) (λ f. (a.0, IsAscendingAbove-put x m xs (grind (arith, nat_tests)) a.1)))

pub IsAscending-put : (m : ℕ) (xs : List ℕ) → IsAscending xs → IsAscending (put m xs)
IsAscending-put m [] a = tt
IsAscending-put m (x ∷ xs) a =
    cond_both (nat_lt m x) _ _ IsAscending (λ e. (ltb-true m x e, a))
    (λ e. cond_both (m == x) _ _ IsAscending (λ _. a) (λ f. IsAscendingAbove-put x m xs (grind (arith, nat_tests)) a))

pub IsAscending-ascending : (xs : List ℕ) → IsAscending (ascending xs)
IsAscending-ascending [] = tt
IsAscending-ascending (x ∷ xs) = IsAscending-put x (ascending xs) (IsAscending-ascending xs)

pub IsAscending-union : (xs ys : List ℕ) → IsAscending (union xs ys)
unfolding union
IsAscending-union xs ys = IsAscending-ascending (xs ++ ys)

pub IsAscendingAbove-filter : (p : ℕ → Bool) (low : ℕ) (xs : List ℕ) → IsAscendingAbove low xs → IsAscendingAbove low (filter p xs)
IsAscendingAbove-filter p low [] a = tt
IsAscendingAbove-filter p low (x ∷ xs) a =
    let rest = IsAscendingAbove-filter p x xs a.1 in
    let P : List ℕ → Type 0 = IsAscendingAbove low in
    cond_both (p x) _ _ P (λ _. (a.0, rest)) (λ _. IsAscendingAbove-weaken low x (filter p xs) (omega (arith, a.0)) rest)

pub IsAscending-filter : (p : ℕ → Bool) (xs : List ℕ) → IsAscending xs → IsAscending (filter p xs)
IsAscending-filter p [] a = tt
IsAscending-filter p (x ∷ xs) a =
    let rest = IsAscendingAbove-filter p x xs a in
    cond_both (p x) _ _ IsAscending (λ _. rest) (λ _. IsAscending-from_above x (filter p xs) rest)

pub IsAscendingAbove-has : (low : ℕ) (xs : List ℕ) (q : ℕ) → IsAscendingAbove low xs → has xs q ≡ true → low < q
IsAscendingAbove-has low [] q a h = absurd (true≢false (sym h))
IsAscendingAbove-has low (x ∷ xs) q a h =
    elim (or_cases (x == q) (has xs q) h) [
      | inl e ↦ omega (arith, a.0, eqb-true x q e)
      | inr e ↦ omega (arith, a.0, IsAscendingAbove-has x xs q a.1 e)
    ]

-- in an ascending list the first is the least
first_least : (x : ℕ) (xs : List ℕ) (q : ℕ) → IsAscending (x ∷ xs) → has (x ∷ xs) q ≡ true → x ≤ q
first_least x xs q a h =
    elim (or_cases (x == q) (has xs q) h) [ inl e ↦ omega (arith, eqb-true x q e) | inr e ↦ omega (arith, IsAscendingAbove-has x xs q a e) ]

has_first : (x : ℕ) (xs : List ℕ) → has (x ∷ xs) x ≡ true
has_first x xs = or_left (x == x) (has xs x) (eq-eqb x x refl)

rest_has : (x y : ℕ) (xs ys : List ℕ) (q : ℕ) → x ≡ y → IsAscending (x ∷ xs)
    → ((m : ℕ) → has (x ∷ xs) m ≡ true → has (y ∷ ys) m ≡ true) → has xs q ≡ true → has ys q ≡ true
rest_has x y xs ys q e a into h =
    elim (or_cases (y == q) (has ys q) (into q (or_right (x == q) (has xs q) h))) [
      | inl f ↦ absurd (omega (arith, IsAscendingAbove-has x xs q a h, eqb-true y q f))
      | inr f ↦ f
    ]

-- ascending lists with the same members are one
pub same_ascending : (xs ys : List ℕ) → IsAscending xs → IsAscending ys
    → ((q : ℕ) → has xs q ≡ true → has ys q ≡ true) → ((q : ℕ) → has ys q ≡ true → has xs q ≡ true) → xs ≡ ys
same_ascending [] [] a b into back = refl
same_ascending [] (y ∷ ys) a b into back = absurd (true≢false (sym (back y (has_first y ys))))
same_ascending (x ∷ xs) [] a b into back = absurd (true≢false (sym (into x (has_first x xs))))
same_ascending (x ∷ xs) (y ∷ ys) a b into back =
    let same : x ≡ y = omega (arith, first_least y ys x b (into x (has_first x xs)), first_least x xs y a (back y (has_first y ys))) in
    let rest : xs ≡ ys = same_ascending xs ys (IsAscending-from_above x xs a) (IsAscending-from_above y ys b)
    (λ q h. rest_has x y xs ys q same a into h) (λ q h. rest_has y x ys xs q (sym same) b back h) in
    cc

-- ---- the greatest moment

pub has-le-newest : (xs : List ℕ) (q : ℕ) → has xs q ≡ true → q ≤ newest xs
has-le-newest [] q h = absurd (true≢false (sym h))
has-le-newest (x ∷ xs) q h =
    elim (or_cases (x == q) (has xs q) h) [ inl e ↦ omega (arith, eqb-true x q e) | inr e ↦ omega (arith, has-le-newest xs q e) ]

has_at : (xs : List ℕ) (m n : ℕ) → m ≡ n → has xs m ≡ true → has xs n ≡ true
has_at xs m n e h = sym (ap (has xs) e) ∙ h

newest_above : (xs : List ℕ) → 0 < newest xs → has xs (newest xs) ≡ true
newest_above [] l = absurd (omega arith)
newest_above (x ∷ xs) l =
    elim (cases_lt x (newest xs)) [
      | inl f ↦ or_right (x == newest (x ∷ xs)) (has xs (newest (x ∷ xs)))
          (has_at xs (newest xs) (newest (x ∷ xs)) (omega arith) (newest_above xs (omega arith)))
      | inr f ↦ or_left (x == newest (x ∷ xs)) (has xs (newest (x ∷ xs))) (eq-eqb x (newest (x ∷ xs)) (omega arith))
    ]

pub has-newest : (xs : List ℕ) (q : ℕ) → has xs q ≡ true → has xs (newest xs) ≡ true
has-newest xs q h =
    let below = has-le-newest xs q h in
    elim (cases_lt 0 (newest xs)) [ inl f ↦ newest_above xs f | inr f ↦ has_at xs q (newest xs) (omega arith) h ]

pub newest-up : (xs ys : List ℕ) (q : ℕ) → ((m : ℕ) → has xs m ≡ true → has ys m ≡ true) → has xs q ≡ true → newest xs ≤ newest ys
newest-up xs ys q into h = has-le-newest ys (newest xs) (into (newest xs) (has-newest xs q h))

-- ---- what is dropped

older_has : (xs : List ℕ) (q : ℕ) → has (older_of xs) q ≡ true → (has xs q ≡ true) × (q + second ≤ newest xs)
older_has xs q h =
    let both = and_parts (has xs q) (nat_le (q + second) (newest xs)) (sym (has-filter (λ n. nat_le (n + second) (newest xs)) xs q) ∙ h) in
    (both.0, leb-true (q + second) (newest xs) both.1)

has_older : (xs : List ℕ) (q : ℕ) → has xs q ≡ true → q + second ≤ newest xs → has (older_of xs) q ≡ true
has_older xs q h l =
    has-filter (λ n. nat_le (n + second) (newest xs)) xs q
    ∙ and_from (has xs q) (nat_le (q + second) (newest xs)) h (le-leb (q + second) (newest xs) l)

pub kept_or_stale : (xs : List ℕ) (m : ℕ) → (is_kept xs m ≡ true) ⊎ IsStale xs m
kept_or_stale xs m =
    elim (cases_Bool (is_kept xs m)) [
      | inl e ↦ inl e
      | inr e ↦ let tests = or_false (nat_lt (newest xs) (m + second)) (nat_le (newest (older_of xs)) m) e in
          let above : m < newest (older_of xs) = leb-false (newest (older_of xs)) m tests.1 in
          let found = older_has xs (newest (older_of xs)) (newest_above (older_of xs) (omega (arith, above))) in
          inr (record { next = newest (older_of xs); among = found.0; after = above; old = found.1 })
    ]

pub kept_not_stale : (xs : List ℕ) (m : ℕ) → is_kept xs m ≡ true → IsStale xs m → ⊥
kept_not_stale xs m k s =
    let up : s.next ≤ newest (older_of xs) = has-le-newest (older_of xs) s.next (has_older xs s.next s.among s.old) in
    elim (or_cases (nat_lt (newest xs) (m + second)) (nat_le (newest (older_of xs)) m) k) [
      | inl e ↦ omega (arith, ltb-true (newest xs) (m + second) e, s.old, s.after)
      | inr e ↦ omega (arith, leb-true (newest (older_of xs)) m e, s.after, up)
    ]

pub is_kept_from : (xs : List ℕ) (m : ℕ) → (IsStale xs m → ⊥) → is_kept xs m ≡ true
is_kept_from xs m none = elim (kept_or_stale xs m) [ inl e ↦ e | inr s ↦ absurd (none s) ]

-- of the later moments that are a second or more older than the greatest, the greatest is kept
pub stale_best : (xs : List ℕ) (m : ℕ) → IsStale xs m → (s : IsStale xs m) × (is_kept xs s.next ≡ true)
stale_best xs m s =
    let in_older = has_older xs s.next s.among s.old in
    let found = older_has xs (newest (older_of xs)) (has-newest (older_of xs) s.next in_older) in
    let up : s.next ≤ newest (older_of xs) = has-le-newest (older_of xs) s.next in_older in (
      record { next = newest (older_of xs); among = found.0; after = omega (arith, s.after, up); old = found.1 },
      or_right (nat_lt (newest xs) (newest (older_of xs) + second))
          (nat_le (newest (older_of xs)) (newest (older_of xs)))
          (le-leb (newest (older_of xs)) (newest (older_of xs)) (omega arith)),
    )

pub IsStale-up : (xs ys : List ℕ) (m : ℕ) → ((q : ℕ) → has xs q ≡ true → has ys q ≡ true) → IsStale xs m → IsStale ys m
IsStale-up xs ys m into s =
    let up : newest xs ≤ newest ys = newest-up xs ys s.next into s.among in
    record { next = s.next; among = into s.next s.among; after = s.after; old = omega (arith, s.old, up) }

-- ---- what is kept

pub has-kept : (xs : List ℕ) (m : ℕ) → has (kept xs) m ≡ (has xs m && is_kept xs m)
unfolding kept
has-kept xs m = has-filter (is_kept xs) (ascending xs) m ∙ ap (λ b. b && is_kept xs m) (has-ascending xs m)

pub IsAscending-kept : (xs : List ℕ) → IsAscending (kept xs)
unfolding kept
IsAscending-kept xs = IsAscending-filter (is_kept xs) (ascending xs) (IsAscending-ascending xs)

-- a list whose moments are all kept is ascending
pub IsAscending-from_kept : (xs : List ℕ) → IsKeptList xs → IsAscending xs
IsAscending-from_kept xs k = subst IsAscending k (IsAscending-kept xs)

pub heard_from_kept : (xs : List ℕ) (m : ℕ) → has (kept xs) m ≡ true → has xs m ≡ true
heard_from_kept xs m h = (and_parts (has xs m) (is_kept xs m) (sym (has-kept xs m) ∙ h)).0

pub not_stale_from_kept : (xs : List ℕ) (m : ℕ) → has (kept xs) m ≡ true → IsStale xs m → ⊥
not_stale_from_kept xs m h = kept_not_stale xs m (and_parts (has xs m) (is_kept xs m) (sym (has-kept xs m) ∙ h)).1

pub kept_from_heard : (xs : List ℕ) (m : ℕ) → has xs m ≡ true → (IsStale xs m → ⊥) → has (kept xs) m ≡ true
kept_from_heard xs m h none = has-kept xs m ∙ and_from (has xs m) (is_kept xs m) h (is_kept_from xs m none)

pub heard_is_kept_or_stale : (xs : List ℕ) (m : ℕ) → has xs m ≡ true → (has (kept xs) m ≡ true) ⊎ IsStale xs m
heard_is_kept_or_stale xs m h =
    elim (kept_or_stale xs m) [ inl e ↦ inl (has-kept xs m ∙ and_from (has xs m) (is_kept xs m) h e) | inr s ↦ inr s ]

-- a moment in `kept` is one that the rule keeps
pub IsKept-from_has : (xs : List ℕ) (m : ℕ) → has (kept xs) m ≡ true → IsKept xs m
IsKept-from_has xs m h =
    let heard = heard_from_kept xs m h in
    elim (cases_lt (newest xs) (m + second)) [
      | inl e ↦ record { heard = heard; kept = inl e }
      | inr e ↦ record {
        heard = heard;
        kept = inr (record {
          older = e;
          greatest = λ n f g. elim (cases_lt m n) [
            | inl l ↦ absurd (not_stale_from_kept xs m h (record { next = n; among = f; after = l; old = g }))
            | inr l ↦ l
          ];
        });
      }
    ]

pub has-from_IsKept : (xs : List ℕ) (m : ℕ) → IsKept xs m → has (kept xs) m ≡ true
has-from_IsKept xs m k = kept_from_heard xs m k.heard (λ s. elim k.kept [
  | inl recent ↦ omega (arith, recent, s.after, s.old)
  | inr older ↦ omega (arith, s.after, older.greatest s.next s.among s.old)
])

-- the kept moments are exactly those that the rule keeps
pub has-kept_iff : (xs : List ℕ) (m : ℕ) → (has (kept xs) m ≡ true) ↔ IsKept xs m
has-kept_iff xs m = (IsKept-from_has xs m, has-from_IsKept xs m)

-- fewer moments have the same kept ones, if all that are missing are stale
pub kept_between : (xs ys : List ℕ) → ((m : ℕ) → has xs m ≡ true → has ys m ≡ true)
    → ((m : ℕ) → has ys m ≡ true → (has xs m ≡ true) ⊎ IsStale ys m) → kept xs ≡ kept ys
kept_between xs ys into back =
    let present : (m : ℕ) → has ys m ≡ true → (IsStale ys m → ⊥)
    → has xs m ≡ true = λ m h none. elim (back m h) [ inl e ↦ e | inr s ↦ absurd (none s) ] in
    let top : (m : ℕ) → has ys m ≡ true
    → has xs (newest ys) ≡ true = λ m h. present (newest ys) (has-newest ys m h)
    (λ s. omega (arith, s.old, s.after)) in
    let down : (m : ℕ) → has ys m ≡ true → IsStale ys m → IsStale xs m = λ m h s.
    (let b = stale_best ys m s in
    let there = present b.0.next b.0.among (kept_not_stale ys b.0.next b.1) in
    let up : newest ys ≤ newest xs = has-le-newest xs (newest ys) (top m h) in
    record { next = b.0.next; among = there; after = b.0.after; old = omega (arith, b.0.old, up) }) in
    same_ascending (kept xs) (kept ys) (IsAscending-kept xs) (IsAscending-kept ys)
    (λ q h. let heard = into q (heard_from_kept xs q h) in kept_from_heard ys q heard (λ s. not_stale_from_kept xs q h (down q heard s)))
    (λ q h. kept_from_heard xs q (present q (heard_from_kept ys q h) (not_stale_from_kept ys q h))
    (λ s. not_stale_from_kept ys q h (IsStale-up xs ys q into s)))

-- only membership counts
pub kept-same : (xs ys : List ℕ) → ((m : ℕ) → has xs m ≡ true → has ys m ≡ true)
    → ((m : ℕ) → has ys m ≡ true → has xs m ≡ true) → kept xs ≡ kept ys
kept-same xs ys into back = kept_between xs ys into (λ m h. inl (back m h))

pub kept_kept : (xs : List ℕ) → kept (kept xs) ≡ kept xs
kept_kept xs = kept_between (kept xs) xs (heard_from_kept xs) (heard_is_kept_or_stale xs)

-- ---- unions

pub union_parts : (xs ys : List ℕ) (m : ℕ) → has (union xs ys) m ≡ true → (has xs m ≡ true) ⊎ (has ys m ≡ true)
union_parts xs ys m h = or_cases (has xs m) (has ys m) (sym (has-union xs ys m) ∙ h)

pub union_left : (xs ys : List ℕ) (m : ℕ) → has xs m ≡ true → has (union xs ys) m ≡ true
union_left xs ys m h = has-union xs ys m ∙ or_left (has xs m) (has ys m) h

pub union_right : (xs ys : List ℕ) (m : ℕ) → has ys m ≡ true → has (union xs ys) m ≡ true
union_right xs ys m h = has-union xs ys m ∙ or_right (has xs m) (has ys m) h

pub union_comm : (xs ys : List ℕ) → union xs ys ≡ union ys xs
union_comm xs ys =
    same_ascending (union xs ys) (union ys xs) (IsAscending-union xs ys) (IsAscending-union ys xs)
    (λ q h. elim (union_parts xs ys q h) [ inl e ↦ union_right ys xs q e | inr e ↦ union_left ys xs q e ])
    (λ q h. elim (union_parts ys xs q h) [ inl e ↦ union_right xs ys q e | inr e ↦ union_left xs ys q e ])

-- keeping one side first changes nothing
pub kept_union-left : (xs ys : List ℕ) → kept (union (kept xs) ys) ≡ kept (union xs ys)
kept_union-left xs ys =
    kept_between (union (kept xs) ys) (union xs ys)
    (λ q h. elim (union_parts (kept xs) ys q h) [ inl e ↦ union_left xs ys q (heard_from_kept xs q e) | inr e ↦ union_right xs ys q e ])
    (λ q h. elim (union_parts xs ys q h) [
      | inl e ↦ elim (heard_is_kept_or_stale xs q e) [
        | inl k ↦ inl (union_left (kept xs) ys q k)
        | inr s ↦ inr (IsStale-up xs (union xs ys) q (union_left xs ys) s)
      ]
      | inr e ↦ inl (union_right (kept xs) ys q e)
    ])

pub kept_union-right : (xs ys : List ℕ) → kept (union xs (kept ys)) ≡ kept (union xs ys)
kept_union-right xs ys = ap kept (union_comm xs (kept ys)) ∙ kept_union-left ys xs ∙ ap kept (union_comm ys xs)

-- keeping both sides first changes nothing
pub kept_union-kept : (xs ys : List ℕ) → kept (union (kept xs) (kept ys)) ≡ kept (union xs ys)
kept_union-kept xs ys = kept_union-left xs (kept ys) ∙ kept_union-right xs ys

union_assoc : (xs ys zs : List ℕ) → union (union xs ys) zs ≡ union xs (union ys zs)
union_assoc xs ys zs =
    same_ascending (union (union xs ys) zs) (union xs (union ys zs)) (IsAscending-union (union xs ys) zs)
    (IsAscending-union xs (union ys zs))
    (λ q h. elim (union_parts (union xs ys) zs q h) [
      | inl e ↦ elim (union_parts xs ys q e) [
        | inl f ↦ union_left xs (union ys zs) q f
        | inr f ↦ union_right xs (union ys zs) q (union_left ys zs q f)
      ]
      | inr e ↦ union_right xs (union ys zs) q (union_right ys zs q e)
    ])
    (λ q h. elim (union_parts xs (union ys zs) q h) [
      | inl e ↦ union_left (union xs ys) zs q (union_left xs ys q e)
      | inr e ↦ elim (union_parts ys zs q e) [
        | inl f ↦ union_left (union xs ys) zs q (union_right xs ys q f)
        | inr f ↦ union_right (union xs ys) zs q f
      ]
    ])

-- joining moments obeys the laws of a join
pub kept_union_laws : JoinLaws IsKeptList kept_union
kept_union_laws = record {
  idempotent = λ xs k. kept-same (union xs xs) xs (λ m h. elim (union_parts xs xs m h) [ inl e ↦ e | inr e ↦ e ]) (union_left xs xs) ∙ k;
  commutative = λ xs ys k l. ap kept (union_comm xs ys);
  associative = λ xs ys zs k l m. kept_union-left (union xs ys) zs ∙ ap kept (union_assoc xs ys zs)
      ∙ sym (kept_union-right xs (union ys zs));
  keeps = λ xs ys k l. kept_kept (union xs ys);
}

-- ---- nothing is lost

-- as of a moment no earlier than all, a flush of `xs` strikes exactly if a kept one does
pub struck-kept : (xs : List ℕ) (t now : ℕ) → newest xs ≤ now → IsStruckBy xs t now → IsStruckBy (kept xs) t now
struck-kept xs t now early by =
    elim (heard_is_kept_or_stale xs by.flush by.among) [
      | inl e ↦ record { flush = by.flush; among = e; later = by.later; old = by.old }
      | inr s ↦ (let b = stale_best xs by.flush s in
          record {
            flush = b.0.next;
            among = kept_from_heard xs b.0.next b.0.among (kept_not_stale xs b.0.next b.1);
            later = omega (arith, by.later, b.0.after);
            old = omega (arith, b.0.old, early);
          })
    ]

pub struck-heard : (xs : List ℕ) (t now : ℕ) → IsStruckBy (kept xs) t now → IsStruckBy xs t now
struck-heard xs t now by = record { flush = by.flush; among = heard_from_kept xs by.flush by.among; later = by.later; old = by.old }

pub struck-kept_iff : (xs : List ℕ) (t now : ℕ) → newest xs ≤ now → IsStruckBy (kept xs) t now ↔ IsStruckBy xs t now
struck-kept_iff xs t now early = (struck-heard xs t now, struck-kept xs t now early)

kept_filter : (x : ℕ) (b : Bool) → b ≡ true → cond b (x ∷ []) [] ≡ x ∷ []
kept_filter x b e = ap (λ t. cond t (x ∷ []) []) e

-- one moment is kept
pub kept-one : (m : ℕ) → kept (m ∷ []) ≡ m ∷ []
unfolding kept
kept-one m = kept_filter m (is_kept (m ∷ []) m) (is_kept_from (m ∷ []) m (λ s. omega (arith, s.after, s.old)))

pub kept_one_of : (m : Moment) (xs : List Moment) → xs ≡ m ∷ [] → IsKeptList (nanos_of xs)
kept_one_of m xs e = subst (λ (ys : List Moment). IsKeptList (nanos_of ys)) (sym e) (kept-one m.nanos)
