-- A list with free room before it, after an insertion.
use Rattle.std.proofs.Common.{◌≡◌, ℕ, ◌+◌, ◌≤◌, List, length, drop, arith, append_assoc, length-drop}
use Rattle.std.specs.List.{insert}
use Rattle.std.proofs.{lemmas.List.{drop_at, drop-drop, length-take-le}, Math.Seq.{take-add}}

module _ {X : Type 0} where
  pub inserted : (xs ys : List X) (first at : ℕ) (x : X) → first + at ≤ length xs
      → ys ≡ insert xs (first + at) x → drop first ys ≡ insert (drop first xs) at x
  inserted xs ys first at x l is = grind (arith, take-add, append_assoc, drop_at, length-take-le, drop-drop)

pub ruleset for_insert = (inserted, length-drop)
