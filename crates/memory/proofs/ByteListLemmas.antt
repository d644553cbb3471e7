-- A part of some bytes that is written over in place.
use Rattle.std.specs.Prelude.{◌≡◌, ℕ, ◌-◌, ◌≤◌, List, ◌++◌, length, take, drop, map}
use Rattle.std.proofs.Common.{arith}
use Rattle.std.proofs.lemmas.{List.{take-take, drop-take, length-take-le, length-drop, length-map}, Slice.{take-put_mid}}
use borrow.Rule.Slice.PartMut.{mid_of, put_mid}

-- of the first n, those from b on went through f
pub mapped_from : (b n : ℕ) (xs ys : List ℕ) (f : ℕ → ℕ) → b ≤ n → n ≤ length xs → ys ≡ map f (mid_of b (n - b) xs)
    → take n (put_mid b (n - b) xs ys) ≡ take b (take n xs) ++ map f (drop b (take n xs))
mapped_from b n xs ys f below within mapped = grind (arith, drop-take, length-map, length-take-le, length-drop, take-put_mid, take-take)
