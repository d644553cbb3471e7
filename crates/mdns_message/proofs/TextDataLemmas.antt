-- The strings of TXT data, one at a time.
use Rattle.std.proofs.Common.{arith, ◌≡◌, refl, ap, ℕ, zero, suc, ◌≤◌, List, [], ◌∷◌, ◌++◌, length, take, drop, min}
use Rattle.std.proofs.{Math.Seq.{take-append_seam, drop-append_seam}, lemmas.List.{take_all, take_min, drop_all, drop_min}}
use Rattle.mdns_message.specs.TextData.{strings_from, strings_of, with_first}

-- the first string, and the strings after it
pub strings_from-take : (n : ℕ) (bytes : List ℕ) → strings_from n bytes ≡ take n bytes ∷ strings_of (drop n bytes)
unfolding strings_from
strings_from-take zero [] = refl
strings_from-take (suc n) [] = refl
strings_from-take zero (b ∷ bytes) = refl
strings_from-take (suc n) (b ∷ bytes) = ap (with_first b) (strings_from-take n bytes)

-- a whole string is the first, before the strings of the bytes after it
pub strings_of_append : (string rest : List ℕ) → strings_of (length string ∷ (string ++ rest)) ≡ string ∷ strings_of rest
strings_of_append string rest = grind (arith, strings_from-take, take-append_seam, drop-append_seam)

-- a string that ends with the data, however much more its length octet says
pub strings_of_cut : (count : ℕ) (string : List ℕ) → length string ≤ count → strings_of (count ∷ string) ≡ string ∷ []
strings_of_cut count string short = grind (arith, strings_from-take, take_all, drop_all)

-- cutting at the octet's count, or at the end where that comes first, gives the first string and the rest
pub strings_of-split : (bytes tail string after : List ℕ) (count mid : ℕ) → bytes ≡ count ∷ tail
    → mid ≡ min count (length tail) → string ≡ take mid tail → after ≡ drop mid tail
    → strings_of bytes ≡ string ∷ strings_of after
strings_of-split bytes tail string after count mid whole at front back = grind (arith, take_min, drop_min, strings_from-take)
