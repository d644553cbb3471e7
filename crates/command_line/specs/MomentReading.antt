-- What the functions of `moments` read from the front of a text. `proofs/` shows that it is the grammar of `Moments`.
use Rattle.std.specs.Prelude.{◌≡◌, ℕ, ◌+◌, ◌-◌, ◌*◌, ◌^◌, ◌&&◌, ◌||◌, ◌==◌, ◌∷◌, [], Bool, List}
use Rattle.std.specs.Prelude.{length, nat_lt, nat_le, if◌then◌else◌, Option, Some, None, drop, option_and_then, option_map}
use Rattle.std.specs.{Prelude.{slice_index, take}, List.{prefix_len}, Char.{is_ascii_digit}, Borrow.{Bor}, Str.{all_ascii_digits}}
use Rattle.std.specs.Str.Parse.{IsNumeral, digits_value, without_leading_plus}
use Rattle.mdns_capture.specs.{Limits.{second}, declared.moment.Moment.{Moment}}
use Rattle.command_line.specs.declared.moments.{Offset.{Offset}, Offset.TheVariants.{Ahead, Behind}}
use Rattle.people_text.specs.Calendar.{day_number}

-- a value and the text after it
abbrev pub Read : Type 0 → Type 0
Read A = Option (A × List ℕ)

-- what a function read
abbrev pub read_of : {A : Type 0} → Option (A × Bor (List ℕ)) → Read A
read_of r = option_map (λ p. (p.0, p.1.now)) r

infixl 10 ◌>>=◌
abbrev ◌>>=◌ : {A B : Type 0} → Option A → (A → Option B) → Option B
o >>= f = option_and_then f o

-- what follows this byte at the front
abbrev pub after_byte : ℕ → List ℕ → Option (List ℕ)
after_byte byte [] = None
after_byte byte (c ∷ rest) = if c == byte then Some rest else None

unfoldable pub read_two_digits : List ℕ → Read ℕ
read_two_digits (a ∷ b ∷ rest) =
    if is_ascii_digit a && is_ascii_digit b then Some (10 * (a - 48) + (b - 48), rest) else None
read_two_digits _ = None

unfoldable pub read_date : List ℕ → Read ℕ
read_date text = do
  century ← read_two_digits text
  year ← read_two_digits century.1
  month ← after_byte 45 year.1 >>= read_two_digits
  day ← after_byte 45 month.1 >>= read_two_digits
  option_map (λ days. (days, day.1)) (day_number (100 * century.0 + year.0) month.0 day.0)

-- an hour, a colon and a minute, in minutes
unfoldable pub read_minutes : List ℕ → Read ℕ
read_minutes text = do
  hour ← read_two_digits text
  minute ← after_byte 58 hour.1 >>= read_two_digits
  if nat_lt hour.0 24 && nat_lt minute.0 60 then Some (60 * hour.0 + minute.0, minute.1) else None

-- one to nine digits, in nanoseconds
abbrev pub is_fraction : List ℕ → Bool
is_fraction digits = all_ascii_digits digits && (nat_lt 0 (length digits) && nat_le (length digits) 9)

unfoldable pub fraction_of : List ℕ → Option ℕ
fraction_of digits = if is_fraction digits then Some (digits_value 10 digits * 10 ^ (9 - length digits)) else None

-- a dot and digits, or nothing
unfoldable pub read_fraction : List ℕ → Read ℕ
read_fraction text =
    if slice_index text 0 == 46
    then (let rest = drop 1 text in let len = prefix_len is_ascii_digit rest in
    option_map (λ nanos. (nanos, drop len rest)) (fraction_of (take len rest)))
    else Some (0, text)

-- a colon, a second and a fraction, or nothing
unfoldable pub read_second : List ℕ → Read (ℕ × ℕ)
read_second text =
    if slice_index text 0 == 58
    then read_two_digits (drop 1 text) >>= (λ seconds. if nat_lt seconds.0 60
    then option_map (λ fraction. ((seconds.0, fraction.0), fraction.1)) (read_fraction seconds.1) else None)
    else Some ((0, 0), text)

unfoldable pub read_time : List ℕ → Read (ℕ × ℕ)
read_time text = do
  minutes ← read_minutes text
  second ← read_second minutes.1
  Some ((minutes.0 * 60 + second.0.0, second.0.1), second.1)

-- the value, where no text is left after it
abbrev pub whole : {A : Type 0} → Read A → Option A
whole None = None
whole (Some (a, [])) = Some a
whole (Some (a, c ∷ rest)) = None

unfoldable pub read_offset : List ℕ → Option Offset
read_offset [] = None
read_offset (c ∷ rest) =
    if (c == 90) || (c == 122) then whole (Some (Ahead 0, rest))
    else if c == 43 then option_map Ahead (whole (read_minutes rest))
    else if c == 45 then option_map Behind (whole (read_minutes rest))
    else None

-- what follows `T`, `t` or a space at the front
abbrev pub after_separator : List ℕ → Option (List ℕ)
after_separator [] = None
after_separator (c ∷ rest) = if ((c == 84) || (c == 116)) || (c == 32) then Some rest else None

-- the seconds of the clock since the year 0, the nanoseconds, and the offset
unfoldable pub read_date_time : List ℕ → Option (ℕ × ℕ × Offset)
read_date_time text = do
  date ← read_date text
  time ← after_separator date.1 >>= read_time
  offset ← read_offset time.1
  Some (date.0 * 86400 + time.0.0, time.0.1, offset)

-- so many nanoseconds after the second that the text is the number of
abbrev pub IsAtSecond : List ℕ → ℕ → Moment → Type 0
IsAtSecond text nanos moment = IsNumeral 10 (without_leading_plus text)
    × (moment.nanos ≡ digits_value 10 (without_leading_plus text) * second + nanos)
