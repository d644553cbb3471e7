-- Numbers in decimal, two digits at a time.
use Rattle.std.proofs.Common.{◌≡◌, ℕ, zero, suc, ◌+◌, ◌-◌, ◌*◌, ◌/◌, ◌%◌, ◌^◌, ◌<◌, ◌≤◌, Bool, true, false, ◌&&◌, T, eqb, inl, inr}
use Rattle.std.proofs.Common.{List, [], ◌∷◌, ◌++◌, length, take, drop, set, replicate, get_or, ap, sym, ◌∙◌, arith}
use Rattle.std.proofs.Common.{eq-zero-or-pos, eqb→eq, append_assoc, length-append, length-set, take-take}
use Rattle.std.proofs.{Math.Nat.{sub-zero}, lemmas.Fmt.{decimal_digit, decimal_step}, lemmas.List.{drop-set, set_comm, take-replicate}}
use Rattle.std.specs.{Fmt.{decimal, digit_glyph}, Str.{IsAscii}, List.{slice_range}}
use Rattle.mdns_browse.specs.RecordText.{hex_octet}
use lib.Ieee.Fits.{and_l, and_r}
use Rattle.mdns_browse.specs.declared.digits.TheConstants.{PAIRS}

-- the table holds the digits of each number below the count
abbrev are_pairs : ℕ → Bool
are_pairs zero = true
are_pairs (suc p) = (eqb (get_or PAIRS (p * 2) 0) (48 + p / 10) && eqb (get_or PAIRS (p * 2 + 1) 0) (48 + p % 10)) && are_pairs p

pair_below : (n p : ℕ) → T (are_pairs n) → p < n
    → (get_or PAIRS (p * 2) 0 ≡ 48 + p / 10) × (get_or PAIRS (p * 2 + 1) 0 ≡ 48 + p % 10)
pair_below zero p all low = absurd (omega arith)
pair_below (suc n) p all low =
    elim (eq-zero-or-pos (n - p)) [
      | inl none ↦
          let same : p ≡ n = omega arith in
          let both = and_l _ (are_pairs n) all in
          rw same (eqb→eq _ _ (and_l _ _ both), eqb→eq _ _ (and_r _ _ both))
      | inr some ↦ pair_below n p (and_r _ (are_pairs n) all) (omega arith)
    ]

-- the table's digits of a number below a hundred
pub pair_at : (p : ℕ) → p < 100 → (get_or PAIRS (p * 2) 0 ≡ 48 + p / 10) × (get_or PAIRS (p * 2 + 1) 0 ≡ 48 + p % 10)
pair_at p low = pair_below 100 p tt low

-- two digits written side by side
pub pair_written : (text : List ℕ) (at x y : ℕ) → at + 2 ≤ length text
    → drop at (set (set text at x) (at + 1) y) ≡ x ∷ y ∷ drop (at + 2) text
pair_written text at x y within = grind (arith, set_comm, drop-set, length-set)

pub length_one : (n : ℕ) → n < 10 → length (decimal n) ≡ 1
length_one n low = ap length (decimal_digit n low)

-- a hexadecimal digit is ASCII
hex_glyph : (digit : ℕ) → digit < 16 → digit_glyph false digit < 128
hex_glyph digit low = grind (arith)

-- a number of two digits
pub decimal_two : (n : ℕ) → 10 ≤ n → n < 100 → decimal n ≡ (48 + n / 10) ∷ (48 + n % 10) ∷ []
decimal_two n low high = rw (decimal_step n low (omega arith), decimal_digit (n / 10) (omega arith))

pub length_two : (n : ℕ) → 10 ≤ n → n < 100 → length (decimal n) ≡ 2
length_two n low high = ap length (decimal_two n low high)

-- a longer number is its hundredth and two digits
pub decimal_pair : (n : ℕ) → 100 ≤ n → n < 2 ^ 64
    → decimal n ≡ decimal (n / 100) ++ (48 + n % 100 / 10) ∷ (48 + n % 100 % 10) ∷ []
decimal_pair n low high = grind (arith, decimal_step, append_assoc)

pub length_pair : (n : ℕ) → 100 ≤ n → n < 2 ^ 64 → length (decimal n) ≡ length (decimal (n / 100)) + 2
length_pair n low high = ap length (decimal_pair n low high) ∙ length-append _ _

-- equal fronts are equal in what is shorter
pub shorter_front : (m n : ℕ) (xs ys : List ℕ) → m ≤ n → take n xs ≡ take n ys → take m xs ≡ take m ys
shorter_front m n xs ys short same = sym (take-take m n xs short) ∙ ap (take m) same ∙ take-take m n ys short

-- the first of nine zeros
pub zeros_cut : (n k : ℕ) → n ≡ k → k ≤ 9 → slice_range {X = ℕ} (replicate 9 48) 0 n ≡ replicate k 48
zeros_cut n k same few = rw (sub-zero, same) (take-replicate k 9 48 few)

-- the digits of an octet are ASCII
pub IsAscii-hex_octet : (octet : ℕ) → octet < 256 → IsAscii (hex_octet octet)
IsAscii-hex_octet octet small zero = hex_glyph (octet / 16) (omega arith)
IsAscii-hex_octet octet small (suc zero) = hex_glyph (octet % 16) (omega arith)
IsAscii-hex_octet octet small (suc (suc i)) = omega arith

-- WHAT FUNCTIONS ARE PROVED BY

pub ruleset for_write_decimal = (decimal_pair, length_pair, shorter_front)

pub ruleset for_write_first = (length_one, length_two, decimal_two, drop-set)
