-- TXT data (RFC 1035, section 3.3.14).
use Rattle.std.specs.Prelude.{ℕ, zero, suc, false, List, [], ◌∷◌}
use Rattle.dns_name.specs.Name.{bytes_text}

-- the strings with the byte prepended to the first
abbrev pub with_first : ℕ → List (List ℕ) → List (List ℕ)
with_first b [] = (b ∷ []) ∷ []
with_first b (string ∷ strings) = (b ∷ string) ∷ strings

-- the bytes as strings: the first has `left` bytes, or as many as there are, and each later one follows its length octet
unfoldable pub strings_from : ℕ → List ℕ → List (List ℕ)
strings_from left [] = [] ∷ []
strings_from zero (count ∷ bytes) = [] ∷ strings_from count bytes
strings_from (suc left) (b ∷ bytes) = with_first b (strings_from left bytes)

-- the strings of TXT data, each after its length octet; a last one cut short is taken as far as it goes (RFC 1035, section 3.3.14)
abbrev pub strings_of : List ℕ → List (List ℕ)
strings_of [] = []
strings_of (count ∷ bytes) = strings_from count bytes

-- the text of one string, in which dots aren't escaped
abbrev pub string_text : List ℕ → List ℕ
string_text string = bytes_text false string
