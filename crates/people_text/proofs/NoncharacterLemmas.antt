-- Every noncharacter is in a hidden range.
use Rattle.std.proofs.Common.{◌≡◌, refl, ℕ, zero, suc, ◌+◌, ◌*◌, ◌/◌, ◌≤◌, Bool, true, false, inl, inr, ◌&&◌}
use Rattle.std.proofs.{Common.{◌||◌, nat_le, List, [], ◌∷◌, arith}, lemmas.Bool.{and_parts, or_cases}, lemmas.Bool.Decides.{nat_tests}}
use Rattle.people_text.specs.Shown.{IsNoncharacter, hidden_ranges, is_hidden}
use Rattle.people_text.proofs.ShownLemmas.{in_ranges}

-- one of the ranges has all numbers from `low` to `high`
covers : ℕ → ℕ → List (ℕ × ℕ) → Bool
covers low high [] = false
covers low high (range ∷ ranges) = (nat_le range.0 low && nat_le high range.1) || covers low high ranges

in_ranges-covered : (ranges : List (ℕ × ℕ)) (low high c : ℕ) → covers low high ranges ≡ true → low ≤ c → c ≤ high
    → in_ranges ranges c ≡ true
unfolding covers
in_ranges-covered [] low high c is from to = absurd (cc)
in_ranges-covered (range ∷ ranges) low high c is from to =
    grind (arith, nat_tests, or_cases, in_ranges-covered ranges low high c)

-- a range has the last two numbers of a plane, and so for all planes up to one
ends : ℕ → Bool
ends plane = covers (plane * 65536 + 65534) (plane * 65536 + 65535) hidden_ranges

all_ends : ℕ → Bool
all_ends zero = ends zero
all_ends (suc plane) = ends (suc plane) && all_ends plane

ends-each : (last plane : ℕ) → all_ends last ≡ true → plane ≤ last → ends plane ≡ true
unfolding all_ends
ends-each zero zero is within = is
ends-each zero (suc plane) is within = absurd (omega arith)
ends-each (suc last) plane is within = grind (arith, nat_tests, and_parts (ends (suc last)) (all_ends last), ends-each last plane)

pub noncharacter_hidden : (code : ℕ) → IsNoncharacter code → is_hidden code ≡ true
unfolding is_hidden hidden_ranges covers ends all_ends
noncharacter_hidden code is =
    elim is.1 as (λ _. is_hidden code ≡ true) [
      | inl within ↦ in_ranges-covered hidden_ranges 0xFDD0 0xFDEF code refl within.0 within.1
      | inr high ↦
          in_ranges-covered hidden_ranges (code / 65536 * 65536 + 65534) (code / 65536 * 65536 + 65535) code
          (ends-each 16 (code / 65536) refl (omega (arith, is.0))) (omega (arith, high)) (omega arith)
    ]
