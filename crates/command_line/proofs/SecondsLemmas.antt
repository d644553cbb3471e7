-- Seconds since 1970 are read as their grammar says: the first dot parts them from the fraction.
use Rattle.std.proofs.Common.{◌≡◌, ◌∙◌, ◌<◌, ◌+◌, ◌++◌, ◌∷◌, ◌==◌, ℕ, Bool, List, [], length, get_or, take, drop, Option, Some, None}
use Rattle.std.proofs.{Common.{IfSome, refl, sym, ap, arith, eqb-true, take_at, drop_at, subst}, lemmas.Bool.Decides.{nat_tests}}
use Rattle.std.proofs.{lemmas.List.{append_assoc, append-nil, length-append}, lemmas.List.Sums.{passes_at_first, split_at_first}}
use Rattle.std.proofs.lemmas.Str.Parse.{digit_from_value}
use Rattle.std.specs.{List.{after_first, before_first, position_or_len}, Str.Parse.{AllDigits, IsNumeral, without_leading_plus}}
use Rattle.mdns_capture.specs.declared.moment.Moment.{Moment}
use Rattle.command_line.specs.{MomentReading.{IsAtSecond}, Moments.{IsFraction, IsOptionalFraction, IsSeconds}}

abbrev is_dot : ℕ → Bool
is_dot byte = byte == 46

digits-pass : (digits rest : List ℕ) → AllDigits 10 digits → position_or_len is_dot (digits ++ rest) ≡ length digits + position_or_len is_dot rest
digits-pass [] rest all = omega arith
digits-pass (c ∷ digits) rest all = grind (arith, digit_from_value, nat_tests, digits-pass digits rest all.1)

-- a number has no dot
whole-pass : (whole rest : List ℕ) → IsNumeral 10 (without_leading_plus whole)
    → position_or_len is_dot (whole ++ rest) ≡ length whole + position_or_len is_dot rest
whole-pass whole rest is = grind (arith, digits-pass, eqb-true)

-- the first dot is at this place
pub record SplitsAt (text whole digits : List ℕ) : Type 0 where
  pub whole_is : whole ≡ before_first is_dot text
  pub digits_are : digits ≡ after_first is_dot text
  pub within : position_or_len is_dot text < length text

split-written : (text whole digits : List ℕ) → SplitsAt text whole digits → text ≡ whole ++ 46 ∷ digits
split-written text whole digits at =
    let dot : get_or text (position_or_len is_dot text) 0 ≡ 46 = eqb-true _ _ (passes_at_first is_dot text 0 at.within) in
    split_at_first is_dot text 0 at.within ∙ rw (dot, at.whole_is, at.digits_are) refl

-- the text of a moment with a dot is parted there
split-same : (text whole digits own fraction : List ℕ) → SplitsAt text whole digits → IsNumeral 10 (without_leading_plus own)
    → text ≡ own ++ 46 ∷ fraction → (whole ≡ own) × (digits ≡ fraction)
split-same text whole digits own fraction at number written =
    let place : position_or_len is_dot text ≡ length own = ap (position_or_len is_dot) written ∙ whole-pass own (46 ∷ fraction) number ∙ omega arith in
    let before : take (length own) text ≡ own = ap (take (length own)) written ∙ take_at own (46 ∷ fraction) _ refl in
    let long : length (own ++ 46 ∷ []) ≡ length own + 1 = length-append own (46 ∷ []) in
    let after : drop (length own + 1) text ≡ fraction =
    ap (drop (length own + 1)) (written ∙ sym (append_assoc own (46 ∷ []) fraction)) ∙ drop_at (own ++ 46 ∷ []) fraction _ long in
    (at.whole_is ∙ ap (λ n. take n text) place ∙ before, at.digits_are ∙ ap (λ n. drop (n + 1) text) place ∙ after)

-- ---- with a dot

pub dotted-told : (text whole digits : List ℕ) (nanos : ℕ) → SplitsAt text whole digits → IsFraction digits nanos
    → (found : Option Moment) → IfSome found (IsAtSecond whole nanos) → IfSome found (IsSeconds text)
dotted-told text whole digits nanos at fraction None is = tt
dotted-told text whole digits nanos at fraction (Some moment) is = record {
  whole = whole;
  whole_is = is.0;
  fraction = 46 ∷ digits;
  nanos = nanos;
  fraction_is = (refl, fraction);
  written = split-written text whole digits at;
  moment_is = is.1;
}

-- the parts of the text of a moment
pub dotted-parts : (text whole digits : List ℕ) → SplitsAt text whole digits → (moment : Moment) (is : IsSeconds text moment)
    → IsFraction digits is.nanos × IsAtSecond whole is.nanos moment
dotted-parts text whole digits at moment is = go is.fraction is.fraction_is is.written
  where
    go : (fraction : List ℕ) → IsOptionalFraction fraction is.nanos → text ≡ is.whole ++ fraction
        → IsFraction digits is.nanos × IsAtSecond whole is.nanos moment
    go [] none written =
        let all : text ≡ is.whole = written ∙ append-nil is.whole in
        let place = whole-pass is.whole [] is.whole_is in
        let same : position_or_len is_dot text ≡ length text =
        ap (position_or_len is_dot) written ∙ place ∙ omega (arith, ap length all) in
        let within = at.within in
        absurd (omega (arith, same, within))
    go (dot ∷ fraction) has written =
        let same = split-same text whole digits is.whole fraction at is.whole_is (written ∙ ap (λ d. is.whole ++ d ∷ fraction) has.0) in (
          subst (λ ds. IsFraction ds is.nanos) (sym same.1) has.1,
          subst (λ w. IsAtSecond w is.nanos moment) (sym same.0) (is.whole_is, is.moment_is),
        )

-- ---- without a dot

pub whole-told : (text : List ℕ) (found : Option Moment) → IfSome found (IsAtSecond text 0) → IfSome found (IsSeconds text)
whole-told text found is = grind (arith, append-nil)

pub whole-parts : (text : List ℕ) → position_or_len is_dot text ≡ length text → (moment : Moment) → IsSeconds text moment → IsAtSecond text 0 moment
whole-parts text dotless moment is = grind (arith, append-nil, whole-pass, length-append)
