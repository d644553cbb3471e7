-- Each reader reads its rule of the grammar, and nothing else.
use Rattle.std.proofs.Common.{◌≡◌, ◌≢◌, ◌∙◌, ◌<◌, ◌+◌, ◌*◌, ◌/◌, ◌%◌, ◌++◌, ◌∷◌, ◌==◌, ℕ, Bool, true, false, cond, List, [], length, get_or}
use Rattle.std.proofs.Common.{take, drop, Option, Some, None, option_and_then, option_map, refl, sym, ap, arith, eqb-true, take_at, drop_at}
use Rattle.std.proofs.{Common.{take-append-drop, nat_lt, nat_le, subst}, lemmas.Bool.{and_parts}, lemmas.Bool.Decides.{nat_tests}}
use Rattle.std.proofs.lemmas.Option.{none-some, same_Some}
use Rattle.std.specs.{List.{prefix_len}, Char.{is_ascii_digit}, Str.{all_ascii_digits}}
use Rattle.command_line.specs.Moments.{IsClock, IsDate, IsFraction, IsOptionalFraction}
use Rattle.people_text.specs.MomentText.{date_written, four_digits, two_digits}
use Rattle.people_text.proofs.CalendarLemmas.{month_length-few}
use Rattle.command_line.proofs.FractionLemmas.{own}
use Rattle.command_line.specs.MomentReading as reading
use Rattle.people_text.specs.Calendar as calendar

-- ---- what a chain of reads went through

pub cond-some : {A : Type 0} (b : Bool) (x y : A) → cond b (Some x) None ≡ Some y → (b ≡ true) × (x ≡ y)
cond-some b x y e = grind (arith, same_Some, none-some)

pub then-some : {A B P : Type 0} (f : A → Option B) (o : Option A) (y : B) → option_and_then f o ≡ Some y → ((x : A) → o ≡ Some x → f x ≡ Some y → P) → P
then-some f o y e k = grind (arith, none-some)

pub map-some : {A B : Type 0} (f : A → B) (o : Option A) (y : B) → option_map f o ≡ Some y → (x : A) × (o ≡ Some x) × (f x ≡ y)
map-some f o y e = grind (arith, none-some, same_Some)

pub same-parts : {A B : Type 0} (a x : A) (b y : B) → ◌≡◌ {A = Option (A × B)} (Some (a, b)) (Some (x, y)) → (a ≡ x) × (b ≡ y)
same-parts a x b y e = let same = same_Some _ _ e in (ap (λ p. p.0) same, ap (λ p. p.1) same)

-- ---- digits

pub two-complete : (n : ℕ) (rest : List ℕ) → n < 100 → reading.read_two_digits (two_digits n ++ rest) ≡ Some (n, rest)
unfolding reading.read_two_digits
two-complete n rest h = grind (arith, nat_tests)

pub two-sound : (text rest : List ℕ) (n : ℕ) → reading.read_two_digits text ≡ Some (n, rest) → (n < 100) × (text ≡ two_digits n ++ rest)
unfolding reading.read_two_digits
two-sound text rest n e = grind (arith, none-some, cond-some, nat_tests)

after-sound : (byte : ℕ) (text rest : List ℕ) → reading.after_byte byte text ≡ Some rest → text ≡ byte ∷ rest
after-sound byte text rest e = grind (arith, none-some, cond-some, eqb-true)

-- a byte and then two digits
marked-sound : {P : Type 0} (byte : ℕ) (text : List ℕ) (x : ℕ × List ℕ) → option_and_then reading.read_two_digits (reading.after_byte byte text) ≡ Some x
    → (x.0 < 100 → text ≡ byte ∷ (two_digits x.0 ++ x.1) → P) → P
marked-sound byte text x e k = grind (arith, then-some, two-sound, after-sound)

-- ---- dates

day-complete : (days year month day : ℕ) → calendar.IsDate days year month day → calendar.day_number year month day ≡ Some days
unfolding calendar.day_number
day-complete days year month day is = grind (arith, nat_tests)

day-sound : (days year month day : ℕ) → calendar.day_number year month day ≡ Some days → calendar.IsDate days year month day
unfolding calendar.day_number
day-sound days year month day e = grind (arith, cond-some, nat_tests)

pub date-complete : (date rest : List ℕ) (days : ℕ) → IsDate date days → reading.read_date (date ++ rest) ≡ Some (days, rest)
unfolding reading.read_date date_written
date-complete date rest days is = grind (arith, month_length-few, two-complete, day-complete)

pub date-sound : (text rest : List ℕ) (days : ℕ) → reading.read_date text ≡ Some (days, rest) → (date : List ℕ) × IsDate date days × (text ≡ date ++ rest)
unfolding reading.read_date date_written
date-sound text rest days e =
    then-some _ (reading.read_two_digits text) _ e λ century high e₁.
    then-some _ (reading.read_two_digits century.1) _ e₁ λ year low e₂.
    then-some _ (option_and_then reading.read_two_digits (reading.after_byte 45 year.1)) _ e₂ λ month led_month e₃.
    then-some _ (option_and_then reading.read_two_digits (reading.after_byte 45 month.1)) _ e₃ λ day led_day e₄.
    marked-sound 45 year.1 month led_month λ small_month at_month.
    marked-sound 45 month.1 day led_day λ small_day at_day.
    let (found, is_day, same) = map-some _ (calendar.day_number (100 * century.0 + year.0) month.0 day.0) _ e₄ in
    let value : found ≡ days = ap (λ p. p.0) same in
    let left : day.1 ≡ rest = ap (λ p. p.1) same in
    let counted = day-sound found (100 * century.0 + year.0) month.0 day.0 is_day in
    let a = two-sound text century.1 century.0 high in
    let b = two-sound century.1 year.1 year.0 low in
    let first : (100 * century.0 + year.0) / 100 ≡ century.0 = omega arith in
    let second : (100 * century.0 + year.0) % 100 ≡ year.0 = omega arith in
    let date = four_digits (100 * century.0 + year.0) ++ 45 ∷ (two_digits month.0 ++ 45 ∷ two_digits day.0) in
    let written : text ≡ date ++ rest = rw (first, second, ← left) (a.1 ∙ ap (λ t. two_digits century.0 ++ t)
    (b.1 ∙ ap (λ t. two_digits year.0 ++ t) (at_month ∙ ap (λ t. 45 ∷ (two_digits month.0 ++ t)) at_day))) in (
      date,
      record {
        year = 100 * century.0 + year.0;
        month = month.0;
        day = day.0;
        year_is = omega (arith, a.0, b.0);
        date_is = rw (← value) counted;
        written = refl;
      },
      written,
    )

-- ---- hours and minutes

pub clock-complete : (clock rest : List ℕ) (minutes : ℕ) → IsClock clock minutes → reading.read_minutes (clock ++ rest) ≡ Some (minutes, rest)
unfolding reading.read_minutes
clock-complete clock rest minutes is = grind (arith, nat_lt, nat_tests, two-complete)

pub clock-sound : (text rest : List ℕ) (minutes : ℕ) → reading.read_minutes text ≡ Some (minutes, rest)
    → (clock : List ℕ) × IsClock clock minutes × (text ≡ clock ++ rest)
unfolding reading.read_minutes
clock-sound text rest minutes e =
    then-some _ (reading.read_two_digits text) _ e λ hour read_hour e₁.
    then-some _ (option_and_then reading.read_two_digits (reading.after_byte 58 hour.1)) _ e₁ λ minute led_minute e₂.
    marked-sound 58 hour.1 minute led_minute λ small_minute at_minute.
    let (test, same) = cond-some _ _ _ e₂ in
    let value : 60 * hour.0 + minute.0 ≡ minutes = ap (λ p. p.0) same in
    let left : minute.1 ≡ rest = ap (λ p. p.1) same in
    let a = two-sound text hour.1 hour.0 read_hour in
    let small : (hour.0 < 24) × (minute.0 < 60) = grind (arith, nat_tests) in (
      two_digits hour.0 ++ 58 ∷ two_digits minute.0,
      record {
        hour = hour.0;
        minute = minute.0;
        hour_is = small.0;
        minute_is = small.1;
        written = refl;
        minutes_are = omega arith;
      },
      rw (← left) (a.1 ∙ ap (λ t. two_digits hour.0 ++ t) at_minute),
    )

-- ---- fractions

pub fraction-complete : (digits : List ℕ) (nanos : ℕ) → IsFraction digits nanos → reading.fraction_of digits ≡ Some nanos
unfolding reading.fraction_of
fraction-complete digits nanos is = grind (arith, own, nat_lt, nat_le, nat_tests)

pub fraction-sound : (digits : List ℕ) (nanos : ℕ) → reading.fraction_of digits ≡ Some nanos → IsFraction digits nanos
unfolding reading.fraction_of
fraction-sound digits nanos e = grind (arith, cond-some, and_parts, nat_lt, nat_le, nat_tests, own)

-- what follows a time: neither a colon nor a dot nor a digit
abbrev pub Stops : List ℕ → Type 0
Stops rest = (get_or rest 0 0 ≢ 58) × (get_or rest 0 0 ≢ 46) × (is_ascii_digit (get_or rest 0 0) ≡ false)

prefix-none : (rest : List ℕ) → is_ascii_digit (get_or rest 0 0) ≡ false → prefix_len is_ascii_digit rest ≡ 0
prefix-none [] stops = refl
prefix-none (c ∷ rest) stops = rw stops refl

prefix-digits : (digits rest : List ℕ) → all_ascii_digits digits ≡ true → is_ascii_digit (get_or rest 0 0) ≡ false
    → prefix_len is_ascii_digit (digits ++ rest) ≡ length digits
prefix-digits [] rest all stops = prefix-none rest stops
prefix-digits (d ∷ ds) rest all stops = grind (arith, prefix-digits ds rest)

pub dotted-complete : (fraction rest : List ℕ) (nanos : ℕ) → IsOptionalFraction fraction nanos → Stops rest
    → reading.read_fraction (fraction ++ rest) ≡ Some (nanos, rest)
unfolding reading.read_fraction
dotted-complete fraction rest nanos is stops = grind (arith, nat_tests, own, prefix-digits, take_at, drop_at, fraction-complete)

dot-first : (text : List ℕ) → get_or text 0 0 ≡ 46 → text ≡ 46 ∷ drop 1 text
dot-first text is = grind arith

pub dotted-sound : (text rest : List ℕ) (nanos : ℕ) → reading.read_fraction text ≡ Some (nanos, rest)
    → (fraction : List ℕ) × IsOptionalFraction fraction nanos × (text ≡ fraction ++ rest)
unfolding reading.read_fraction
dotted-sound text rest nanos e = go (get_or text 0 0 == 46) refl e
  where
    len : ℕ
    len = prefix_len is_ascii_digit (drop 1 text)

    go : (b : Bool) → (get_or text 0 0 == 46) ≡ b
        → cond b (option_map {U = ℕ × List ℕ} (λ n. (n, drop len (drop 1 text))) (reading.fraction_of (take len (drop 1 text)))) (Some (0, text)) ≡ Some (nanos, rest)
        → (fraction : List ℕ) × IsOptionalFraction fraction nanos × (text ≡ fraction ++ rest)
    go false is read = grind (arith, same-parts)
    go true is read =
        let (found, fraction, same) = map-some _ (reading.fraction_of (take len (drop 1 text))) _ read in
        let value : found ≡ nanos = ap (λ p. p.0) same in
        let left : drop len (drop 1 text) ≡ rest = ap (λ p. p.1) same in
        let digits = fraction-sound (take len (drop 1 text)) found fraction in (
          46 ∷ take len (drop 1 text),
          (refl, subst (λ n. IsFraction (take len (drop 1 text)) n) value digits),
          dot-first text (eqb-true _ _ is) ∙ ap (λ t. 46 ∷ t) (sym (take-append-drop len (drop 1 text)) ∙ ap (λ t. take len (drop 1 text) ++ t) left),
        )
