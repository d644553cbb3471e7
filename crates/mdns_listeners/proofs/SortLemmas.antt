-- A sort leaves the numbers in ascending order, and there is one such order.
use Rattle.std.proofs.lemmas.{Bool.Decides.{nat_tests}, Int.{ints}, Cmp.{int_cmp_total}, List.Elements.{recursion_from_All}}
use Rattle.std.proofs.lemmas.List.Sorted.{IsPermutation-cons, IsPermutation-middle, IsPermutation-refl, IsPermutation-trans, length_permutation, ranks_by}
use Rattle.std.proofs.lemmas.List.{Sorted.{sorted_far, sum_by-IsPermutation}, Sums.{sum_by-cons}}
use Rattle.std.proofs.Common.{◌≡◌, ℕ, suc, zero, ◌+◌, Bool, true, false, cond, List, [], ◌∷◌, length, get_or}
use Rattle.std.proofs.Common.{ℤ, arith, refl, ap, sym, ◌∙◌, subst}
use Rattle.std.specs.{Ordering.{int_cmp, is_lt}, List.{AllByRecursion, count_by}, List.Sorted.{IsPermutation, IsSorted}, Prelude.{int_lt}}
use Rattle.mdns_listeners.specs.{HeardMessage.{HeardRow}, Pairs.{AreAhead, ascending_of, differences, with_number}}

-- ---- order

not_below : (x y z : ℤ) → int_lt y x ≡ false → int_lt z y ≡ false → int_lt z x ≡ false
not_below x y z a b = grind (arith, ints)

not_above : (x y : ℤ) → int_lt y x ≡ true → int_lt x y ≡ false
not_above x y a = grind (arith, ints)

-- each number is at most as large as the later ones
IsUp : List ℤ → Type 0
IsUp [] = Unit {0}
IsUp (x ∷ xs) = AllByRecursion (λ y. int_lt y x ≡ false) xs × IsUp xs

-- ---- the order that a sort promises

is_lt-int : (x y : ℤ) → is_lt (int_cmp x y) ≡ int_lt x y
is_lt-int x y = grind (arith, nat_tests)

tail-sorted : (x : ℤ) (xs : List ℤ) → IsSorted int_cmp (x ∷ xs) → IsSorted int_cmp xs
tail-sorted x xs up k d low high =
    let next : suc k + 1 ≡ suc (k + 1) = omega arith in
    subst (λ n. is_lt (int_cmp (get_or (x ∷ xs) n d) (get_or xs k d)) ≡ false) next
    (up (suc k) d (omega arith) (omega (arith, high)))

IsUp-from_sorted : (xs : List ℤ) → IsSorted int_cmp xs → IsUp xs
unfolding IsUp
IsUp-from_sorted [] up = tt
IsUp-from_sorted (x ∷ xs) up = (
  recursion_from_All (λ y. int_lt y x ≡ false) xs (λ k d short.
      sym (is_lt-int (get_or xs k d) x)
      ∙ sorted_far (λ a b. is_lt (int_cmp a b)) (ranks_by int_cmp_total (λ (a : ℤ). a)) (x ∷ xs) up 0 (suc k) d (omega arith)
      (omega (arith, short))),
  IsUp-from_sorted xs (tail-sorted x xs up),
)

-- ---- counting numbers

count-cons : (p : ℤ → Bool) (x : ℤ) (xs : List ℤ) → count_by p (x ∷ xs) ≡ cond (p x) 1 0 + count_by p xs
count-cons p x xs = sum_by-cons (λ y. cond (p y) 1 0) x xs

count-none : (p : ℤ → Bool) (xs : List ℤ) → AllByRecursion (λ x. p x ≡ false) xs → count_by p xs ≡ 0
count-none p [] none = refl
count-none p (x ∷ xs) none = grind (arith, count-cons, count-none p xs none.1)

-- two lists that have each number as often
SameCounts : List ℤ → List ℤ → Type 0
SameCounts xs ys = (p : ℤ → Bool) → count_by p xs ≡ count_by p ys

-- the least number of the one is not below that of the other
not_less : (x y : ℤ) (xs ys : List ℤ) → AllByRecursion (λ z. int_lt z y ≡ false) ys → SameCounts (x ∷ xs) (y ∷ ys)
    → int_lt x y ≡ false
unfolding SameCounts
not_less x y xs ys up same =
    let p : ℤ → Bool = λ z. int_lt z y in
    let none : count_by p (y ∷ ys) ≡ 0 = count-none p (y ∷ ys) (grind (arith, ints), up) in
    let zero : cond (p x) 1 0 + count_by p xs ≡ 0 = sym (count-cons p x xs) ∙ (same p ∙ none) in
    elim (p x) as (λ b. cond b 1 0 + count_by p xs ≡ 0 → b ≡ false) [ true ↦ λ e. absurd (omega arith) | false ↦ λ e. refl ] zero

same-tails : (x y : ℤ) (xs ys : List ℤ) → x ≡ y → SameCounts (x ∷ xs) (y ∷ ys) → SameCounts xs ys
unfolding SameCounts
same-tails x y xs ys e same = λ p.
    let split : cond {A = ℕ} (p x) 1 0 + count_by p xs ≡ cond {A = ℕ} (p y) 1 0 + count_by p ys =
    sym (count-cons p x xs) ∙ (same p ∙ count-cons p y ys) in
    let front : cond {A = ℕ} (p x) 1 0 ≡ cond {A = ℕ} (p y) 1 0 = ap (λ (z : ℤ). cond {A = ℕ} (p z) 1 0) e in
    omega (arith, split, front)

one_order : (xs ys : List ℤ) → IsUp xs → IsUp ys → SameCounts xs ys → xs ≡ ys
unfolding IsUp SameCounts
one_order [] [] up vp same = refl
one_order [] (y ∷ ys) up vp same =
    let e : 0 ≡ 1 + count_by (λ z. true) ys = same (λ z. true) ∙ count-cons (λ z. true) y ys in absurd (omega arith)
one_order (x ∷ xs) [] up vp same =
    let e : 0 ≡ 1 + count_by (λ z. true) xs = sym (same (λ z. true)) ∙ count-cons (λ z. true) x xs in absurd (omega arith)
one_order (x ∷ xs) (y ∷ ys) up vp same =
    let front : x ≡ y = omega (arith, ints, not_less x y xs ys vp.0 same, not_less y x ys xs up.0 (λ p. sym (same p))) in
    let back = one_order xs ys up.1 vp.1 (same-tails x y xs ys front same) in
    λ i. front i ∷ back i

-- ---- the order that the definition gives

all-with : (P : ℤ → Type 0) (x : ℤ) (xs : List ℤ) → P x → AllByRecursion P xs → AllByRecursion P (with_number x xs)
all-with P x [] here rest = (here, tt)
all-with P x (y ∷ ys) here rest = grind (arith, all-with P x ys here rest.1)

all-weaker : (P Q : ℤ → Type 0) → ((x : ℤ) → P x → Q x) → (xs : List ℤ) → AllByRecursion P xs → AllByRecursion Q xs
all-weaker P Q weaker [] all = tt
all-weaker P Q weaker (x ∷ xs) all = (weaker x all.0, all-weaker P Q weaker xs all.1)

IsUp-with : (x : ℤ) (xs : List ℤ) → IsUp xs → IsUp (with_number x xs)
unfolding IsUp
IsUp-with x [] up = (tt, tt)
IsUp-with x (y ∷ ys) up = search (arith, all-with, not_above, all-weaker, not_below, IsUp-with x ys up.1)

IsUp-ascending : (xs : List ℤ) → IsUp (ascending_of xs)
unfolding IsUp
IsUp-ascending [] = tt
IsUp-ascending (x ∷ xs) = IsUp-with x (ascending_of xs) (IsUp-ascending xs)

-- ---- the ascending list has the same numbers, in order

with-same : (x : ℤ) (xs : List ℤ) → IsPermutation (x ∷ xs) (with_number x xs)
with-same x [] = IsPermutation-refl (x ∷ [])
with-same x (y ∷ ys) =
    elim (int_lt y x) as (λ b. IsPermutation (x ∷ y ∷ ys) (cond b (y ∷ with_number x ys) (x ∷ y ∷ ys))) [
      | true ↦ IsPermutation-trans (x ∷ y ∷ ys) (y ∷ x ∷ ys) (y ∷ with_number x ys) (IsPermutation-middle (x ∷ []) y ys)
          (IsPermutation-cons y (x ∷ ys) (with_number x ys) (with-same x ys))
      | false ↦ IsPermutation-refl (x ∷ y ∷ ys)
    ]

pub ascending-same : (xs : List ℤ) → IsPermutation xs (ascending_of xs)
ascending-same [] = IsPermutation-refl []
ascending-same (x ∷ xs) =
    IsPermutation-trans (x ∷ xs) (x ∷ ascending_of xs) (with_number x (ascending_of xs))
    (IsPermutation-cons x xs (ascending_of xs) (ascending-same xs)) (with-same x (ascending_of xs))

pub length-ascending : (xs : List ℤ) → length (ascending_of xs) ≡ length xs
length-ascending xs = length_permutation xs (ascending_of xs) (ascending-same xs)

-- what a sort leaves
pub ascending-is : (xs ys : List ℤ) → IsPermutation xs ys → IsSorted int_cmp ys → ys ≡ ascending_of xs
unfolding SameCounts
ascending-is xs ys moved up = one_order ys (ascending_of xs) (IsUp-from_sorted ys up) (IsUp-ascending xs)
    (λ p. sum_by-IsPermutation (λ x. cond (p x) 1 0) xs ys moved
    ∙ sym (sum_by-IsPermutation (λ x. cond (p x) 1 0) xs (ascending_of xs) (ascending-same xs)))

IsSorted-from_up : (xs : List ℤ) → IsUp xs → IsSorted int_cmp xs
unfolding IsUp
IsSorted-from_up [] up k d low high = absurd (omega arith)
IsSorted-from_up (x ∷ []) up k d low high = absurd (omega arith)
IsSorted-from_up (x ∷ y ∷ ys) up zero d low high = is_lt-int y x ∙ up.0.0
IsSorted-from_up (x ∷ y ∷ ys) up (suc k) d low high = grind (arith, IsSorted-from_up (y ∷ ys) up.1 k d (omega arith) (omega (arith, high)))

pub ascending-up : (xs : List ℤ) → IsSorted int_cmp (ascending_of xs)
ascending-up xs = IsSorted-from_up (ascending_of xs) (IsUp-ascending xs)

pub ahead-are : (one other : ℕ) (rows : List HeardRow) → AreAhead one other rows (ascending_of (differences one other rows))
ahead-are one other rows = grind (arith, ascending-same, ascending-up)
