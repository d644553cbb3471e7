-- Lists that are the same where no byte differs, and lists compared part by part.
use Rattle.std.proofs.Common.{◌≡◌, ℕ, ◌+◌, ◌-◌, ◌*◌, ◌%◌, ◌^◌, ◌≤◌, List, [], ◌∷◌, ◌++◌, Bool, true, false, cond, eqb}
use Rattle.std.proofs.Common.{length, map, take, drop, refl, sym, ap, ◌∙◌, arith, w8}
use Rattle.std.proofs.lemmas.{Bool.{eqb-true, eq-eqb, false≢true}, List.{take-take, take_all}}
use Rattle.std.proofs.lemmas.Simd.{length-chunk, length-zip2, mask_l-mod, tops_compared}
use Rattle.std.specs.{Prelude.{◌↔◌, IsTrue, not, slice_range}, Simd.Lanes.{zip2, mask_l, top}}
use lib.Seq.{take-add}

-- two bytes differ
abbrev pub differ : ℕ → ℕ → Bool
differ x y = not (eqb x y)

none_set : (b : Bool) (rest : ℕ) → cond b 1 0 + 2 * rest ≡ 0 → (b ≡ false) × (rest ≡ 0)
none_set true rest e = absurd (omega arith)
none_set false rest e = (refl, omega arith)

not_differ : (x y : ℕ) (b : Bool) → eqb x y ≡ b → not b ≡ false → x ≡ y
not_differ x y true e n = eqb-true x y e
not_differ x y false e n = absurd (false≢true (sym n))

-- the mask that a comparison of two vectors gives: a bit is set where their bytes differ
abbrev pub mask_of : List ℕ → List ℕ → ℕ
mask_of xs ys = mask_l (map (top 7) (zip2 (λ a b. cond (differ a b) 255 0) xs ys)) % 2 ^ 64

-- where no bit of the mask is set, the lists are the same
same_bytes : (xs ys : List ℕ) → length xs ≡ length ys → mask_l (zip2 differ xs ys) ≡ 0 → xs ≡ ys
same_bytes [] [] l e = refl
same_bytes [] (y ∷ ys) l e = absurd (omega arith)
same_bytes (x ∷ xs) [] l e = absurd (omega arith)
same_bytes (x ∷ xs) (y ∷ ys) l e =
    let none = none_set (differ x y) (mask_l (zip2 differ xs ys)) e in
    let first : x ≡ y = not_differ x y (eqb x y) refl none.0 in
    let rest : xs ≡ ys = same_bytes xs ys (omega arith) none.1 in
    λ i. first i ∷ rest i

-- and where they are the same, none is
none_differ : (xs : List ℕ) → mask_l (zip2 differ xs xs) ≡ 0
none_differ [] = refl
none_differ (x ∷ xs) = (λ i. cond (not (eq-eqb x x refl i)) 1 0 + 2 * none_differ xs i)

differ_mask : (xs ys : List ℕ) → length xs ≡ 16 → length ys ≡ 16 → mask_of xs ys ≡ mask_l (zip2 differ xs ys)
differ_mask xs ys l m =
    let count : length (zip2 differ xs ys) ≡ 16 = length-zip2 differ xs ys (l ∙ sym m) ∙ l in
    ap (λ ms. mask_l ms % 2 ^ 64) (tops_compared w8 differ xs ys) ∙ mask_l-mod (zip2 differ xs ys) 64 (omega arith)

zero_tells : (n : ℕ) (b : Bool) → eqb n 0 ≡ b → IsTrue (not (not b)) ↔ (n ≡ 0)
zero_tells n true e = (λ t. eqb-true n 0 e, λ z. refl)
zero_tells n false e = (λ t. absurd (false≢true t), λ z. absurd (false≢true (sym e ∙ eq-eqb n 0 z)))

-- a comparison of two vectors of 16 bytes tells whether they are the same
vectors_tell : (xs ys : List ℕ) → length xs ≡ 16 → length ys ≡ 16
    → IsTrue (not (not (eqb (mask_of xs ys) 0))) ↔ (xs ≡ ys)
vectors_tell xs ys l m = grind (arith, zero_tells, same_bytes, differ_mask, none_differ)

-- two parts of 16 bytes, taken as vectors
pub words_tell : (xs ys : List ℕ) (at : ℕ) → at + 16 ≤ length xs → at + 16 ≤ length ys
    → IsTrue (not (not (eqb (mask_of (take 16 (drop at xs)) (take 16 (drop at ys))) 0)))
    ↔ (slice_range xs at (at + 16) ≡ slice_range ys at (at + 16))
words_tell xs ys at l m =
    let word : at + 16 - at ≡ 16 = omega arith in
    let one : length (take 16 (drop at xs)) ≡ 16 = length-chunk at 16 xs l in
    let other : length (take 16 (drop at ys)) ≡ 16 = length-chunk at 16 ys m in
    rw word (vectors_tell (take 16 (drop at xs)) (take 16 (drop at ys)) one other)

-- one part more
pub more_same : (xs ys : List ℕ) (at : ℕ) → take at xs ≡ take at ys
    → slice_range xs at (at + 16) ≡ slice_range ys at (at + 16) → take (at + 16) xs ≡ take (at + 16) ys
more_same xs ys at before part =
    let word : at + 16 - at ≡ 16 = omega arith in
    let same : take 16 (drop at xs) ≡ take 16 (drop at ys) = rw word at part in
    take-add at 16 xs ∙ (λ i. before i ++ same i) ∙ sym (take-add at 16 ys)

-- the last part, which may overlap those before
pub last_same : (xs ys : List ℕ) (at last : ℕ) → length xs ≡ length ys → last + 16 ≡ length xs → last ≤ at
    → take at xs ≡ take at ys → slice_range xs last (last + 16) ≡ slice_range ys last (last + 16) → xs ≡ ys
last_same xs ys at last l whole late before part =
    let front : take last xs ≡ take last ys =
    sym (take-take last at xs late) ∙ ap (take last) before ∙ take-take last at ys late in
    sym (take_all (last + 16) xs (omega arith)) ∙ more_same xs ys last front part
    ∙ take_all (last + 16) ys (omega arith)
