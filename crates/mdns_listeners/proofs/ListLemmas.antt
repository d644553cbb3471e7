-- Steps of loops that make lists.
use Rattle.std.proofs.lemmas.{Bool.Decides.{nat_tests}, List.{drop_more}, List.FromFn.{map-range_with_len_more}}
use Rattle.std.proofs.Common.{◌≡◌, ℕ, ◌+◌, ◌<◌, List, [], ◌∷◌, ◌++◌, length, map, drop, get_or, arith, append_assoc}
use Rattle.std.specs.List.{enumerate_from, range_with_len}

-- what a function makes of so many numbers
pub made_more : {Y : Type 0} (f : ℕ → Y) (i : ℕ) (ys zs : List Y) (y : Y) → zs ≡ ys ++ y ∷ [] → y ≡ f i
    → ys ≡ map f (range_with_len 0 i) → zs ≡ map f (range_with_len 0 (i + 1))
made_more f i ys zs y push made before = grind (arith, map-range_with_len_more)

-- the front of a list, and what is made of the rest: one more in front
pub front_more : {Y : Type 0} (ys zs rest all total : List Y) (y : Y) → zs ≡ ys ++ y ∷ [] → all ≡ y ∷ rest
    → ys ++ all ≡ total → zs ++ rest ≡ total
front_more ys zs rest all total y push next before = grind (arith, append_assoc)

-- what a function makes of each item with its index
pub listed_more : {X Y : Type 0} (f : ℕ × X → Y) (xs : List X) (i : ℕ) (x : X) (ys zs total : List Y) (y : Y) → i < length xs
    → x ≡ get_or xs i x → zs ≡ ys ++ y ∷ [] → y ≡ f (i, x)
    → ys ++ map f (enumerate_from i (drop i xs)) ≡ total
    → zs ++ map f (enumerate_from (i + 1) (drop (i + 1) xs)) ≡ total
listed_more f xs i x ys zs total y short is push made before = grind (arith, nat_tests, drop_more, front_more)
