-- The digits of a fraction.
use Rattle.std.proofs.Common.{◌≡◌, ◌∙◌, ℕ, ◌-◌, ◌*◌, ◌^◌, ◌+◌, ◌<◌, ◌≤◌, true, List, length, None, Some, ap, arith, sym}
use Rattle.std.proofs.{Math.Nat.{mul-lt-mul_of_pos_right, one-le-pow}, lemmas.Bool.{and_parts}, lemmas.Bool.Decides.{nat_tests}}
use Rattle.std.proofs.{lemmas.Nat.{pow-add}, lemmas.Str.Parse.{IsNumeralModel, digits_value_short, numerals_by_value}}
use Rattle.std.proofs.lemmas.Str.Parse.{tells_all_ascii_digits, not_in_digits, parse_digits, parse_plain}
use Rattle.std.proofs.{lemmas.Fmt.{IsAscii-from_digits}, lemmas.Str.{IsUtf8-from_ascii}}
use Rattle.std.specs.{Str.{all_ascii_digits}, Str.Parse.{digits_value}}
use Rattle.command_line.specs.MomentReading.{fraction_of}

pub own : IsNumeralModel (λ ds. all_ascii_digits ds ≡ true) (digits_value 10)
own = numerals_by_value _ tells_all_ascii_digits

-- nine digits are less than a second
below-second : (ds : List ℕ) → all_ascii_digits ds ≡ true → length ds ≤ 9 → digits_value 10 ds * 10 ^ (9 - length ds) < 1000000000
below-second ds all short =
    let value = digits_value_short own ds (length ds) all (omega arith) in
    let nine : length ds + (9 - length ds) ≡ 9 = omega arith in
    let whole : 10 ^ length ds * 10 ^ (9 - length ds) ≡ 1000000000 =
    sym (pow-add 10 (length ds) (9 - length ds)) ∙ ap (λ n. 10 ^ n) nine in
    let below = mul-lt-mul_of_pos_right {k = 10 ^ (9 - length ds)} value (one-le-pow (9 - length ds) 10 (omega arith)) in
    omega (arith, whole, below)

-- one to nine digits
pub read : (ds : List ℕ) (n : ℕ) → all_ascii_digits ds ≡ true → 0 < length ds → length ds ≤ 9 → n ≡ digits_value 10 ds
    → (Some (n * 10 ^ (9 - length ds)) ≡ fraction_of ds) × (n * 10 ^ (9 - length ds) < 1000000000)
unfolding fraction_of
read ds n all some few is = grind (arith, nat_tests, below-second)

-- other bytes
pub unread : (ds : List ℕ) → (all_ascii_digits ds ≡ true → 0 < length ds → length ds ≤ 9 → ⊥) → None ≡ fraction_of ds
unfolding fraction_of
unread ds never = grind (arith, and_parts, nat_tests)

pub ruleset for_fraction_of = (own, read, unread, digits_value_short, not_in_digits, parse_digits, parse_plain, IsUtf8-from_ascii, IsAscii-from_digits)
