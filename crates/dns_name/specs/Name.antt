-- Names: their wire form (RFC 1035, section 3.1; at most 256 bytes by RFC 6762, Appendix C), folding, and text.
use Rattle.std.specs.Prelude.{◌≡◌, ℕ, zero, suc, ◌+◌, ◌/◌, ◌%◌, ◌≤◌, ◌==◌, Bool, true, ◌&&◌, ◌||◌, nat_le}
use Rattle.std.specs.Prelude.{if◌then◌else◌, List, [], ◌∷◌, ◌++◌, length, map}
use Rattle.std.specs.{List.{flat_map}, Char.{to_ascii_lowercase}}

-- the most bytes of a label (RFC 1035, section 2.3.4), and of a name, its final zero included (RFC 6762, Appendix C)
abbrev pub longest_label : ℕ
longest_label = 63

abbrev pub longest_name : ℕ
longest_name = 256

-- a label has 1 to 63 bytes
pub record IsLabel (label : List ℕ) : Type 0 where
  pub some_bytes : 1 ≤ length label
  pub few_bytes : length label ≤ longest_label

-- each is a label
abbrev pub AreLabels : List (List ℕ) → Type 0
AreLabels [] = Unit {0}
AreLabels (label ∷ labels) = IsLabel label × AreLabels labels

-- the wire form of labels: each after its length octet, and a zero octet at the end
abbrev pub wire_of : List (List ℕ) → List ℕ
wire_of [] = 0 ∷ []
wire_of (label ∷ labels) = length label ∷ (label ++ wire_of labels)

-- the bytes are labels and a zero octet, however long
pub record IsForm (bytes : List ℕ) : Type 0 where
  pub labels : List (List ℕ)
  pub sized : AreLabels labels
  pub wire : bytes ≡ wire_of labels

-- the bytes are the wire form of a name
pub record IsWire (bytes : List ℕ) : Type 0 where
  pub form : IsForm bytes
  pub short : length bytes ≤ longest_name

-- the next `left` bytes, which end a label, and the labels after them
abbrev pub pieces_of : ℕ → List ℕ → List ℕ × List (List ℕ)
pieces_of left [] = ([], [])
pieces_of zero (zero ∷ bytes) = ([], [])
pieces_of zero (suc count ∷ bytes) =
    let rest = pieces_of (suc count) bytes in
    ([], rest.0 ∷ rest.1)
pieces_of (suc left) (byte ∷ bytes) =
    let rest = pieces_of left bytes in
    (byte ∷ rest.0, rest.1)

-- the labels of a wire form, up to its zero octet
abbrev pub labels_of : List ℕ → List (List ℕ)
labels_of bytes = (pieces_of 0 bytes).1

-- each byte 0x41 to 0x5A as its lower case letter: so names compare (RFC 6762, section 16); a length octet is at most 63
abbrev pub folded : List ℕ → List ℕ
folded bytes = map to_ascii_lowercase bytes

-- three decimal digits
abbrev pub three_digits : ℕ → List ℕ
three_digits byte = (48 + byte / 100) ∷ (48 + byte / 10 % 10) ∷ (48 + byte % 10) ∷ []

-- a byte as text: `\` as `\\`, with `dots` also `.` as `\.`, other printing ASCII as it is, the rest as `\DDD` (RFC 1035, section 5.1)
abbrev pub byte_text : Bool → ℕ → List ℕ
byte_text dots byte =
    if ((dots && (byte == 46)) || (byte == 92)) then 92 ∷ byte ∷ []
    else (if (nat_le 33 byte && nat_le byte 126) then byte ∷ [] else 92 ∷ three_digits byte)

abbrev pub bytes_text : Bool → List ℕ → List ℕ
bytes_text dots bytes = flat_map (byte_text dots) bytes

-- the text of a label, in which `.` is escaped, since dots separate labels
abbrev pub label_text : List ℕ → List ℕ
label_text label = bytes_text true label

-- the labels that follow another one, each after a `.`
abbrev pub further_text : List (List ℕ) → List ℕ
further_text [] = []
further_text (label ∷ labels) = (46 ∷ label_text label) ++ further_text labels

abbrev pub labels_text : List (List ℕ) → List ℕ
labels_text [] = 46 ∷ []
labels_text (label ∷ labels) = label_text label ++ further_text labels

-- a name as text: its labels with `.` between them and no final dot, and the root as `.`
abbrev pub name_text : List ℕ → List ℕ
name_text bytes = labels_text (labels_of bytes)

-- `new` is `old` and a prefix of `text`
pub record HasFront (old text new : List ℕ) : Type 0 where
  pub front : List ℕ
  pub rest : List ℕ
  pub whole : text ≡ front ++ rest
  pub appended : new ≡ old ++ front

-- the bytes begin with `before`
pub record Extends (before bytes : List ℕ) : Type 0 where
  pub more : List ℕ
  pub whole : bytes ≡ before ++ more
