-- A range of a list, and the rest of it; reads that failed.
use Rattle.std.proofs.Common.{rules, Result, Ok, Err, Option, IsErr, take-append-drop, drop-drop, ◌≡◌, ℕ, ◌+◌, ◌-◌}
use Rattle.std.proofs.Common.{◌≤◌, List, [], ◌++◌, take, drop, slice_range, ap, arith, length-take, length-take-le}
use Rattle.std.proofs.lemmas.{Grind.{common_steps}, List.{drop-take}}
use Rattle.std.specs.Io.KnownBytes.{Keeps, ReadConsumes}

-- a range up to an offset that isn't greater is empty
pub slice_range-empty : (xs : List ℕ) (a e : ℕ) → e ≤ a → slice_range xs a e ≡ []
slice_range-empty xs a e none = ap (λ n. take n (drop a xs)) {y = 0} (omega arith)

drop-slice_range : (xs : List ℕ) (a e n : ℕ) → n ≤ e - a → drop n (slice_range xs a e) ≡ slice_range xs (a + n) e
drop-slice_range xs a e n within = grind (arith, drop-take n (e - (a + n)) (drop a xs), drop-drop n a xs)

-- a range is its first bytes and then the others
pub slice_range-split : (xs : List ℕ) (a e n : ℕ) → n ≤ e - a → slice_range xs a e ≡ take n (slice_range xs a e) ++ slice_range xs (a + n) e
slice_range-split xs a e n within = grind (arith, slice_range xs a e, take-append-drop, drop-slice_range xs a e n within)

-- a read that failed consumed nothing
pub ReadConsumes-err : {E : Type 0} (old new : Option (List ℕ)) (r : Result ℕ E) (to : List ℕ) → IsErr r
    → Keeps old new → ReadConsumes old new r to
ReadConsumes-err old new (Ok n) to failed kept = search rules
ReadConsumes-err old new (Err e) to failed kept = kept

pub ruleset for_give = (slice_range-split, slice_range, length-take, length-take-le, common_steps)
