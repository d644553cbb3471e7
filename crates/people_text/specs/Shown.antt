-- Bytes and names of the network as text for people.
use Rattle.std.specs.Prelude.{◌≡◌, ◌≢◌, ◌≤◌, ◌<◌, ◌⊎◌, ℕ, zero, suc, ◌-◌, ◌%◌, ◌==◌, ◌&&◌, ◌||◌, Bool, true, false, if◌then◌else◌}
use Rattle.std.specs.Prelude.{List, [], ◌∷◌, ◌++◌, nat_le, nat_lt, not, slice_index}
use Rattle.std.specs.{Char.{IsScalar, encode_utf8, len_utf8}, List.{All, flat_map, list_any}, Str.{chars, encode_utf8_all}}
use Rattle.std.specs.Str.Lossy.{utf8_valid_len}
use Rattle.dns_name.specs.Name.{labels_of, three_digits}

-- scalars that would stay unseen or change how others are seen: controls, bidirectional marks, zero-width and blank
-- scalars, spaces other than U+0020, variation selectors, tags, private use and noncharacters
unfoldable pub hidden_ranges : List (ℕ × ℕ)
hidden_ranges =
    (0x0000, 0x001F) ∷ (0x007F, 0x00A0) ∷ (0x00AD, 0x00AD) ∷ (0x034F, 0x034F) ∷ (0x061C, 0x061C) ∷ (0x115F, 0x1160)
    ∷ (0x1680, 0x1680) ∷ (0x17B4, 0x17B5) ∷ (0x180B, 0x180F) ∷ (0x2000, 0x200F) ∷ (0x2028, 0x202F) ∷ (0x205F, 0x206F)
    ∷ (0x2800, 0x2800) ∷ (0x3000, 0x3000) ∷ (0x3164, 0x3164) ∷ (0xE000, 0xF8FF) ∷ (0xFDD0, 0xFDEF) ∷ (0xFE00, 0xFE0F)
    ∷ (0xFEFF, 0xFEFF) ∷ (0xFFA0, 0xFFA0) ∷ (0xFFF0, 0xFFFB) ∷ (0xFFFE, 0xFFFF) ∷ (0x13430, 0x1345F) ∷ (0x1BCA0, 0x1BCA3)
    ∷ (0x1D173, 0x1D17A) ∷ (0x1FFFE, 0x1FFFF) ∷ (0x2FFFE, 0x2FFFF) ∷ (0x3FFFE, 0x3FFFF) ∷ (0x4FFFE, 0x4FFFF)
    ∷ (0x5FFFE, 0x5FFFF) ∷ (0x6FFFE, 0x6FFFF) ∷ (0x7FFFE, 0x7FFFF) ∷ (0x8FFFE, 0x8FFFF) ∷ (0x9FFFE, 0x9FFFF)
    ∷ (0xAFFFE, 0xAFFFF) ∷ (0xBFFFE, 0xBFFFF) ∷ (0xCFFFE, 0xCFFFF) ∷ (0xDFFFE, 0xDFFFF) ∷ (0xE0000, 0x10FFFF) ∷ []

-- a scalar value that isn't shown to people as it is
unfoldable pub is_hidden : ℕ → Bool
is_hidden scalar = list_any (λ (range : ℕ × ℕ). nat_le range.0 scalar && nat_le scalar range.1) hidden_ranges

-- a noncharacter (the Unicode Standard, section 23.7): one of the 32 code points from U+FDD0 on, or one of the last two of a plane
abbrev pub IsNoncharacter : ℕ → Type 0
IsNoncharacter code = (code ≤ 0x10FFFF) × (((0xFDD0 ≤ code) × (code ≤ 0xFDEF)) ⊎ (0xFFFE ≤ code % 0x10000))

-- a byte as `\DDD`
abbrev pub escaped_byte : ℕ → List ℕ
escaped_byte byte = 92 ∷ three_digits byte

-- the scalar is written after a `\`: `\`, and with `dots` also `.`
abbrev pub is_marked : Bool → ℕ → Bool
is_marked dots scalar = (scalar == 92) || (dots && (scalar == 46))

-- a printing ASCII byte that isn't written after a `\`
abbrev pub is_plain_byte : Bool → ℕ → Bool
is_plain_byte dots byte = (nat_le 32 byte && nat_lt byte 127) && not (is_marked dots byte)

-- a scalar as text; where it is hidden, each byte of its UTF-8 as `\DDD`
unfoldable pub scalar_text : Bool → ℕ → List ℕ
scalar_text dots scalar =
    if is_hidden scalar then flat_map escaped_byte (encode_utf8 scalar)
    else (if is_marked dots scalar then 92 ∷ encode_utf8 scalar else encode_utf8 scalar)

-- the text of the bytes after the first `taken`, which belong to a scalar before
abbrev pub text_after : Bool → ℕ → List ℕ → List ℕ
text_after dots taken [] = []
text_after dots zero (b ∷ bytes) =
    if utf8_valid_len (b ∷ bytes) == 0 then escaped_byte b ++ text_after dots 0 bytes
    else (let scalar = slice_index (chars (b ∷ bytes)) 0 in scalar_text dots scalar ++ text_after dots (len_utf8 scalar - 1) bytes)
text_after dots (suc taken) (b ∷ bytes) = text_after dots taken bytes

-- bytes as text, from left to right: a scalar where its UTF-8 begins the bytes, and else their first byte as `\DDD`; with
-- `dots`, `.` as `\.`
unfoldable pub bytes_shown : Bool → List ℕ → List ℕ
bytes_shown dots bytes = text_after dots 0 bytes

abbrev pub shown : List ℕ → List ℕ
shown bytes = bytes_shown false bytes

-- the texts of labels with `.` between them and no final dot, and the root as `.`
abbrev pub dotted : (List ℕ → List ℕ) → List (List ℕ) → List ℕ
dotted text_of [] = 46 ∷ []
dotted text_of (label ∷ labels) = text_of label ++ flat_map (λ label. 46 ∷ text_of label) labels

-- a name as text, with `.` in a label as `\.`, since dots separate labels
abbrev pub name_shown : List ℕ → List ℕ
name_shown bytes = dotted (bytes_shown true) (labels_of bytes)

-- a scalar value that isn't hidden
abbrev pub IsVisible : ℕ → Type 0
IsVisible scalar = IsScalar scalar × (is_hidden scalar ≡ false)

-- the text is the UTF-8 of visible scalars alone
pub record IsVisibleText (text : List ℕ) : Type 0 where
  pub scalars : List ℕ
  pub visible : All IsVisible scalars
  pub encoded : encode_utf8_all scalars ≡ text

-- the byte is no control character
abbrev pub IsPrinted : ℕ → Type 0
IsPrinted byte = (32 ≤ byte) × (byte ≢ 127)

abbrev pub AreBytes : List ℕ → Type 0
AreBytes bytes = All (λ byte. byte < 256) bytes
