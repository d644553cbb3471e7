-- Which labels of a name people write where they mean an instance, and which are its type.
use Rattle.std.specs.Prelude.{ℕ, ◌==◌, Bool, false, if◌then◌else◌, List, [], ◌∷◌}

-- the label begins with `_`, as those of a service type do (RFC 6763, section 7)
abbrev pub is_of_type : List ℕ → Bool
is_of_type [] = false
is_of_type (byte ∷ bytes) = byte == 95

-- the labels before the first that is of a type
abbrev pub before_type : List (List ℕ) → List (List ℕ)
before_type [] = []
before_type (label ∷ labels) = if is_of_type label then [] else label ∷ before_type labels

-- the other labels
abbrev pub from_type : List (List ℕ) → List (List ℕ)
from_type [] = []
from_type (label ∷ labels) = if is_of_type label then label ∷ labels else from_type labels

-- the first label, and those between it and a type: of a service instance's name, the instance (RFC 6763, section 4.1)
abbrev pub front : List (List ℕ) → List (List ℕ)
front [] = []
front (label ∷ labels) = label ∷ before_type labels

-- the labels after these
abbrev pub after_front : List (List ℕ) → List (List ℕ)
after_front [] = []
after_front (label ∷ labels) = from_type labels
