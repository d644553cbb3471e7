-- Keys of record sets (RFC 6762, section 10.2), and the one list of bytes that holds such a key.
use Rattle.std.specs.Prelude.{ℕ, ◌+◌, ◌*◌, List, [], ◌∷◌}

-- a record set: the owner's folded wire form, and the type number
pub record RecordSet : Type 0 where
  pub owner : List ℕ
  pub number : ℕ

-- the bytes after the first two
abbrev pub owner_held : List ℕ → List ℕ
owner_held [] = []
owner_held (high ∷ []) = []
owner_held (high ∷ low ∷ owner) = owner

-- the big-endian number of the first two bytes, or 0 where there are fewer
abbrev pub number_held : List ℕ → ℕ
number_held [] = 0
number_held (high ∷ []) = 0
number_held (high ∷ low ∷ owner) = high * 256 + low

-- the set key that is held: its number in big-endian order, and then its owner
abbrev pub set_key_held : List ℕ → RecordSet
set_key_held bytes = record { owner = owner_held bytes; number = number_held bytes }
