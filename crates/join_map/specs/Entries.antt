-- Finite maps as the list of their entries in key order, and their join key by key.
use Rattle.std.specs.{Prelude.{List, [], ◌∷◌, Option, Some, None}, declared.cmp.Ordering.{Ordering}, Ordering.{match_ordering, is_eq}}
use Rattle.std.specs.{Map.{keys_of, lookup}, List.Sorted.{IsStrictlySortedBy}}

-- the value at the key k
abbrev pub value_at : {K V : Type 0} → (K → K → Ordering) → K → List (K × V) → Option V
value_at cmp k entries = lookup (λ key. is_eq (cmp k key)) entries

-- each value of the entries is valid
abbrev pub AllValid : {K V : Type 0} → (V → Type 0) → List (K × V) → Type 0
AllValid Valid [] = Unit {0}
AllValid Valid (e ∷ es) = Valid e.1 × AllValid Valid es

-- each key fits its value
abbrev pub AllFit : {K V : Type 0} → (K → V → Type 0) → List (K × V) → Type 0
AllFit Fits [] = Unit {0}
AllFit Fits (e ∷ es) = Fits e.0 e.1 × AllFit Fits es

-- entries of a map: each key is below those after it, and each value is valid
pub record IsJoinMap {K V : Type 0} (cmp : K → K → Ordering) (Valid : V → Type 0) (entries : List (K × V)) : Type 0 where
  pub sorted : IsStrictlySortedBy cmp (keys_of entries)
  pub valid : AllValid Valid entries

-- the entries with v joined into the value at k, or put there
abbrev pub put_entry : {K V : Type 0} → (K → K → Ordering) → (V → V → V) → List (K × V) → K → V → List (K × V)
put_entry cmp join [] k v = (k, v) ∷ []
put_entry cmp join (e ∷ es) k v = match_ordering (cmp k e.0) ((k, v) ∷ e ∷ es) ((e.0, join e.1 v) ∷ es) (e ∷ put_entry cmp join es k v)

-- the join of two maps, key by key
abbrev pub joined : {K V : Type 0} → (K → K → Ordering) → (V → V → V) → List (K × V) → List (K × V) → List (K × V)
joined cmp join xs [] = xs
joined cmp join xs (e ∷ es) = joined cmp join (put_entry cmp join xs e.0 e.1) es

-- the map of entries in any order, of which several may have the same key
abbrev pub gathered : {K V : Type 0} → (K → K → Ordering) → (V → V → V) → List (K × V) → List (K × V)
gathered cmp join es = joined cmp join [] es

-- the join of the values that two maps have at one key
abbrev pub joined_at : {V : Type 0} → (V → V → V) → Option V → Option V → Option V
joined_at join None w = w
joined_at join (Some v) None = Some v
joined_at join (Some v) (Some w) = Some (join v w)

-- the map of one entry
abbrev pub one_entry : {K V : Type 0} → K → V → List (K × V)
one_entry k v = (k, v) ∷ []
