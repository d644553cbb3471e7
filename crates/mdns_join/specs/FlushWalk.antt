-- What is left of a walk over entries in key order.
use Rattle.std.specs.{Prelude.{List, [], ◌∷◌, Option, None, Some}, Borrow.{Bor}, Map.Iter.{deref_pair}}

-- the next entry and those after it; there are none after no next one
abbrev pub with_next : {K V : Type 0} → Option (Bor K × Bor V) → List (K × V) → List (K × V)
with_next None rest = []
with_next (Some e) rest = deref_pair e ∷ rest
