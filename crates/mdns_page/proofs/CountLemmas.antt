-- Numbers with commas.
use Rattle.std.proofs.Common.{◌≡◌, refl, ℕ, ◌+◌, ◌/◌, ◌%◌, ◌^◌, ◌<◌, ◌≤◌, ◌==◌}
use Rattle.std.proofs.Common.{◌&&◌, nat_lt, not, Bool, true, false, if◌then◌else◌, List, [], ◌∷◌, ◌++◌, length, arith}
use Rattle.std.proofs.{Common.{append_assoc, length-append}, lemmas.Bool.Decides.{nat_tests}}
use Rattle.std.proofs.lemmas.{Fmt.{decimal_is_IsNumeral_wide, decimal_step_wide, length-decimal-le_wide}, Str.Parse.{digit_from_value}}
use Rattle.std.specs.{Fmt.{decimal}, List.{filter}, Str.Parse.{AllDigits}}
use Rattle.dns_name.specs.Name.{three_digits}
use Rattle.mdns_page.specs.Counts.{commas, in_threes}

-- ---- few digits

few-same : (digits : List ℕ) → length digits ≤ 3 → in_threes digits ≡ digits
few-same [] few = refl
few-same (a ∷ []) few = refl
few-same (a ∷ b ∷ []) few = refl
few-same (a ∷ b ∷ c ∷ []) few = refl
few-same (a ∷ b ∷ c ∷ d ∷ digits) few = absurd (omega (arith, few))

pub commas-few : (number : ℕ) → number < 1000 → commas number ≡ decimal number
unfolding commas
commas-few number small =
    few-same (decimal number) (length-decimal-le_wide 3 number (omega arith) (omega (arith, small)) (omega (arith, small)))

-- ---- three digits more

-- a comma stands before so many digits
abbrev are_threes : ℕ → Bool
are_threes following = nat_lt 0 following && (following % 3 == 0)

threes-more : (following : ℕ) → 0 < following → are_threes (following + 3) ≡ are_threes following
threes-more following some = grind (arith, nat_tests, some)

comma-before : (between : Bool) (digits more : List ℕ)
    → (if between then 44 ∷ (digits ++ more) else digits ++ more) ≡ (if between then 44 ∷ digits else digits) ++ more
comma-before true digits more = refl
comma-before false digits more = refl

three-more : (digits : List ℕ) (a b c : ℕ) → 0 < length digits
    → in_threes (digits ++ a ∷ b ∷ c ∷ []) ≡ in_threes digits ++ 44 ∷ a ∷ b ∷ c ∷ []
three-more [] a b c some = absurd (omega (arith, some))
three-more (digit ∷ []) a b c some = refl
three-more (digit ∷ next ∷ digits) a b c some =
    grind (arith, length-append, threes-more, comma-before, three-more (next ∷ digits) a b c (omega arith))

decimal-three : (number : ℕ) → 1000 ≤ number → number < 2 ^ 128
    → decimal number ≡ decimal (number / 1000) ++ three_digits (number % 1000)
decimal-three number low high = grind (arith, decimal_step_wide, append_assoc)

pub commas-more : (number : ℕ) → 1000 ≤ number → number < 2 ^ 128
    → commas number ≡ commas (number / 1000) ++ 44 ∷ three_digits (number % 1000)
unfolding commas
commas-more number low high = grind (arith, decimal-three, three-more, decimal_is_IsNumeral_wide)

pub commas-written : (number : ℕ) (old front new : List ℕ) → 1000 ≤ number → number < 2 ^ 128 → front ≡ old ++ commas (number / 1000)
    → new ≡ front ++ 44 ∷ three_digits (number % 1000)
    → new ≡ old ++ commas number
commas-written number old front new low high begun written = grind (arith, append_assoc, commas-more)

-- ---- without commas

no_comma : (between : Bool) (digits : List ℕ)
    → filter (λ byte. not (byte == 44)) (if between then 44 ∷ digits else digits) ≡ filter (λ byte. not (byte == 44)) digits
no_comma true digits = refl
no_comma false digits = refl

digit-stays : (digit : ℕ) (rest : List ℕ) → 48 ≤ digit
    → filter (λ byte. not (byte == 44)) (digit ∷ rest) ≡ digit ∷ filter (λ byte. not (byte == 44)) rest
digit-stays digit rest low = grind (arith, nat_tests)

without : (digits : List ℕ) → AllDigits 10 digits → filter (λ byte. not (byte == 44)) (in_threes digits) ≡ digits
without [] are = refl
without (digit ∷ digits) are = grind (arith, digit_from_value, digit-stays, no_comma, without digits are.1)

pub commas-decimal : (number : ℕ) → number < 2 ^ 128 → filter (λ byte. not (byte == 44)) (commas number) ≡ decimal number
unfolding commas
commas-decimal number high = without (decimal number) (decimal_is_IsNumeral_wide number (omega (arith, high))).0.1

-- WHAT FUNCTIONS ARE PROVED BY

pub ruleset for_counts = (commas-decimal, commas-few, commas-more)

pub ruleset for_push_commas = (commas-few, commas-written)
