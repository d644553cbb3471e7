-- Parts of a capture's bytes are bytes.
use Rattle.std.proofs.Common.{rules, ℕ, zero, suc, ◌<◌, List, [], ◌∷◌, ◌++◌, drop, slice_index, take, arith}
use Rattle.mdns_capture.specs.{Savefile.{PacketAt}, Cut.{part_before, part_from, offset_after}}

-- each number is one of a byte
abbrev pub AreBytes : List ℕ → Type 0
AreBytes bytes = (place : ℕ) → slice_index bytes place < 256

pub bytes_left : (xs ys : List ℕ) → AreBytes (xs ++ ys) → AreBytes xs
bytes_left [] ys are place = omega arith
bytes_left (x ∷ xs) ys are zero = are zero
bytes_left (x ∷ xs) ys are (suc place) = bytes_left xs ys (λ p. are (suc p)) place

pub bytes_right : (xs ys : List ℕ) → AreBytes (xs ++ ys) → AreBytes ys
bytes_right [] ys are = are
bytes_right (x ∷ xs) ys are = bytes_right xs ys (λ p. are (suc p))

bytes-append : (xs ys : List ℕ) → AreBytes xs → AreBytes ys → AreBytes (xs ++ ys)
bytes-append [] ys are others place = others place
bytes-append (x ∷ xs) ys are others zero = are zero
bytes-append (x ∷ xs) ys are others (suc place) = bytes-append xs ys (λ p. are (suc p)) others place

bytes-take : (count : ℕ) (xs : List ℕ) → AreBytes xs → AreBytes (take count xs)
bytes-take zero xs are place = omega arith
bytes-take (suc count) [] are place = omega arith
bytes-take (suc count) (x ∷ xs) are zero = are zero
bytes-take (suc count) (x ∷ xs) are (suc place) = bytes-take count xs (λ p. are (suc p)) place

bytes-drop : (count : ℕ) (xs : List ℕ) → AreBytes xs → AreBytes (drop count xs)
bytes-drop zero xs are = are
bytes-drop (suc count) [] are = are
bytes-drop (suc count) (x ∷ xs) are = bytes-drop count xs (λ p. are (suc p))

pub bytes_of_parts : (bytes : List ℕ) (front : List PacketAt) → AreBytes bytes
    → AreBytes (part_before (offset_after 24 front) bytes) × AreBytes (part_from (offset_after 24 front) bytes)
bytes_of_parts bytes front are = search (rules, bytes-take, bytes-append, bytes-drop)
