-- Flush moments that were added in any order.
use Rattle.std.proofs.Common.{arith, ◌≡◌, ℕ, List, ◌++◌, refl}
use Rattle.mdns_join.specs.Kept.{has, ascending, union}
use Rattle.mdns_join.specs.laws.Kept.{has-append, has-ascending, has-union, IsAscending-ascending, IsAscending-union}
use Rattle.mdns_lives.specs.laws.Flushes.{same_moments}

-- moments behind others are joined with them
pub ascending-both : (xs ys zs : List ℕ) → ((q : ℕ) → has ys q ≡ has zs q) → ascending (xs ++ ys) ≡ union (ascending xs) zs
ascending-both xs ys zs same = grind (arith, same_moments, IsAscending-ascending, IsAscending-union, has-ascending, has-append, has-union)

pub union-is : (xs ys : List ℕ) → ascending (xs ++ ys) ≡ union xs ys
unfolding union
union-is xs ys = refl
