-- Text of the network within markup.
use Rattle.std.specs.Prelude.{◌≡◌, ◌≢◌, ℕ, ◌==◌, ◌||◌, Bool, if◌then◌else◌, List, [], ◌∷◌, ◌++◌, codes}
use Rattle.std.specs.List.{Contains, flat_map}

-- a byte as text: those that begin or end markup are written as character references
abbrev pub html_byte : ℕ → List ℕ
html_byte byte =
    if byte == 38 then codes "&amp;" else (if byte == 60 then codes "&lt;" else (if byte == 62 then codes "&gt;"
    else (if byte == 34 then codes "&quot;" else (if byte == 39 then codes "&#39;" else byte ∷ []))))

-- a text as HTML has it, within elements and in attributes
unfoldable pub html_text : List ℕ → List ℕ
html_text bytes = flat_map html_byte bytes

-- text of the network, apart from what is around it in its direction of writing; nowhere else does such text stand
abbrev pub isolated : List ℕ → List ℕ
isolated text = codes "<bdi>" ++ html_text text ++ codes "</bdi>"

-- the byte begins or ends markup
abbrev pub is_marked : ℕ → Bool
is_marked byte = (byte == 38) || (byte == 60) || (byte == 62) || (byte == 34) || (byte == 39)

-- the byte neither begins nor ends a tag or the value of an attribute
abbrev pub IsHarmless : ℕ → Type 0
IsHarmless byte = (byte ≢ 60) × (byte ≢ 62) × (byte ≢ 34) × (byte ≢ 39)

unfoldable pub references : List (List ℕ)
references = codes "&amp;" ∷ codes "&lt;" ∷ codes "&gt;" ∷ codes "&quot;" ∷ codes "&#39;" ∷ []

-- the text begins with one of the references
abbrev pub BeginsReference : List ℕ → Type 0
BeginsReference text = (reference rest : List ℕ) × Contains references reference × (text ≡ reference ++ rest)
