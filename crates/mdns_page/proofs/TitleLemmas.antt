-- Whether all rows have few lives.
use Rattle.std.proofs.Common.{◌≡◌, sym, ◌∙◌, ap, ℕ, ◌+◌, ◌-◌, ◌<◌, ◌≤◌, Bool, nat_le, is_some}
use Rattle.std.proofs.{Common.{Option, None, Some, List, ◌++◌, length, map, take, get_or, arith}, lemmas.Bool.Decides.{nat_tests}}
use Rattle.std.proofs.lemmas.{List.{length-append}, List.Folds.{flat_map-map, length-flat_map-take}}
use Rattle.std.specs.List.{flat_map}
use Rattle.mdns_lives.specs.declared.life.Life.{Life}
use Rattle.mdns_page.specs.{Timeline.{Row, lives_in}, BarTitles.{IsLess}}

module _ {X : Type 0} (lives : X → List Life) (xs : List X) (i left count : ℕ) (x : X) (within : i < length xs) (at : x ≡ get_or xs i x)
    (counted : left + length (flat_map lives (take i xs)) ≡ count) where
  -- the next one has more lives than are left
  pub lives_many : left < length (lives x) → count < length (flat_map lives xs)
  lives_many more = grind (arith, length-flat_map-take)

module _ {R : Type 0} (lent : R → Row) (rows : List R) (i left count : ℕ) (row : R) (within : i < length rows) (at : row ≡ get_or rows i row)
    (counted : left + length (flat_map lives_in (map lent (take i rows))) ≡ count) where
  counted-lent : left + length (flat_map (λ r. lives_in (lent r)) (take i rows)) ≡ count
  counted-lent = ap (λ lives. left + length lives) (sym (flat_map-map lives_in lent (take i rows))) ∙ counted

  -- a row has more lives than are left of so many
  pub too_many : left < length (lives_in (lent row)) → count < length (flat_map lives_in (map lent rows))
  too_many more = grind (arith, flat_map-map, lives_many, counted-lent)

-- the lives of a row: its own, and those of its servers
pub row_lives : {R : Type 0} (own : List Life) (lives : R → List Life) (servers : List R)
    → length (own ++ flat_map (λ some. some) (map lives servers)) ≡ length own + length (flat_map lives servers)
row_lives own lives servers = grind (arith, length-append, flat_map-map)

-- a count less the lives of a row, by parts
pub less_parts : (count own more all : ℕ) (left : Option ℕ) → own ≤ count → all ≡ own + more → IsLess (count - own) more left
    → IsLess count all left
less_parts count own more all None few parts is = omega (arith, few, parts, is)
less_parts count own more all (Some rest) few parts is = omega (arith, few, parts, is)

-- all have few lives, if some count is left
pub few_by : (n : ℕ) (left : Option ℕ) (is : Bool) → is ≡ is_some left → IsLess 1000 n left → is ≡ nat_le n 1000
few_by n (Some rest) is same less = let counted : rest + n ≡ 1000 = less in same ∙ grind (arith, nat_tests, counted)
few_by n None is same less = let more : 1000 < n = less in same ∙ grind (arith, nat_tests, more)
