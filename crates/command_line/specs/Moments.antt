-- Moments as people write them: seconds since 1970, or a date and time of RFC 3339.
use Rattle.std.specs.Prelude.{◌≡◌, ◌<◌, ◌≤◌, ◌⊎◌, ℕ, ◌+◌, ◌-◌, ◌*◌, ◌^◌, ◌++◌, ◌∷◌, [], List, length}
use Rattle.std.specs.Str.Parse.{IsNumeral, digits_value, without_leading_plus}
use Rattle.mdns_capture.specs.{Limits.{second}, declared.moment.Moment.{Moment}}
use Rattle.people_text.specs.{Calendar.{days_of_years}, MomentText.{date_written, two_digits}}
use Rattle.people_text.specs.Calendar as calendar
use Rattle.command_line.specs.declared.moments.{Offset.{Offset}, Offset.TheVariants.{Ahead, Behind}}

abbrev pub day_length : ℕ
day_length = 86400

-- ---- the grammar of RFC 3339, section 5.6

-- full-date, `2026-11-22`: a day of the calendar, with so many days before it
pub record IsDate (text : List ℕ) (days : ℕ) : Type 0 where
  pub year : ℕ
  pub month : ℕ
  pub day : ℕ
  pub year_is : year < 10000
  pub date_is : calendar.IsDate days year month day
  pub written : text ≡ date_written year month day

-- `T`, or one of those that the section's notes allow in its place: `t` or a space
abbrev pub IsSeparator : ℕ → Type 0
IsSeparator byte = (byte ≡ 84) ⊎ (byte ≡ 116) ⊎ (byte ≡ 32)

-- the digits of a fraction of a second, one to nine, are worth so many nanoseconds
abbrev pub IsFraction : List ℕ → ℕ → Type 0
IsFraction digits nanos =
    IsNumeral 10 digits × (length digits ≤ 9) × (nanos ≡ digits_value 10 digits * 10 ^ (9 - length digits))

-- time-secfrac, `.397617`, or nothing
abbrev pub IsOptionalFraction : List ℕ → ℕ → Type 0
IsOptionalFraction [] nanos = nanos ≡ 0
IsOptionalFraction (dot ∷ digits) nanos = (dot ≡ 46) × IsFraction digits nanos

-- the second of a time with its fraction, `:00.25`, or nothing, which the grammar doesn't have
pub record IsSecond (text : List ℕ) (seconds nanos : ℕ) : Type 0 where
  pub second_is : seconds < 60
  pub fraction : List ℕ
  pub fraction_is : IsOptionalFraction fraction nanos
  pub written : text ≡ 58 ∷ (two_digits seconds ++ fraction)

abbrev pub IsOptionalSecond : List ℕ → ℕ → ℕ → Type 0
IsOptionalSecond text seconds nanos = ((text ≡ []) × (seconds ≡ 0) × (nanos ≡ 0)) ⊎ IsSecond text seconds nanos

-- an hour and a minute, `07:27`, in minutes
pub record IsClock (text : List ℕ) (minutes : ℕ) : Type 0 where
  pub hour : ℕ
  pub minute : ℕ
  pub hour_is : hour < 24
  pub minute_is : minute < 60
  pub written : text ≡ two_digits hour ++ 58 ∷ two_digits minute
  pub minutes_are : minutes ≡ hour * 60 + minute

-- partial-time, `07:27:00.25`: so many seconds and nanoseconds after midnight, without leap seconds
pub record IsTime (text : List ℕ) (seconds nanos : ℕ) : Type 0 where
  pub clock : List ℕ
  pub minutes : ℕ
  pub clock_is : IsClock clock minutes
  pub more : List ℕ
  pub of_minute : ℕ
  pub more_is : IsOptionalSecond more of_minute nanos
  pub written : text ≡ clock ++ more
  pub seconds_are : seconds ≡ minutes * 60 + of_minute

-- time-offset: `Z` or `z`, or a sign, hours and minutes; `+` is ahead of UTC
abbrev pub IsOffset : List ℕ → Offset → Type 0
IsOffset [] offset = ⊥
IsOffset (sign ∷ text) (Ahead minutes) =
    (((sign ≡ 90) ⊎ (sign ≡ 122)) × (text ≡ []) × (minutes ≡ 0)) ⊎ ((sign ≡ 43) × IsClock text minutes)
IsOffset (sign ∷ text) (Behind minutes) = (sign ≡ 45) × IsClock text minutes

-- seconds of UTC and of a clock with this offset
abbrev pub IsLocal : Offset → ℕ → ℕ → Type 0
IsLocal (Ahead minutes) utc local = local ≡ utc + minutes * 60
IsLocal (Behind minutes) utc local = local + minutes * 60 ≡ utc

-- date-time
pub record IsDateTime (text : List ℕ) (moment : Moment) : Type 0 where
  pub date : List ℕ
  pub days : ℕ
  pub date_is : IsDate date days
  pub separator : ℕ
  pub separator_is : IsSeparator separator
  pub time : List ℕ
  pub seconds : ℕ
  pub nanos : ℕ
  pub time_is : IsTime time seconds nanos
  pub zone : List ℕ
  pub offset : Offset
  pub offset_is : IsOffset zone offset
  pub written : text ≡ date ++ separator ∷ (time ++ zone)
  pub since : ℕ
  pub since_is : IsLocal offset (days_of_years 1970 * day_length + since) (days * day_length + seconds)
  pub moment_is : moment.nanos ≡ since * second + nanos

-- ---- seconds since 1970, `1795332403.397617000`

pub record IsSeconds (text : List ℕ) (moment : Moment) : Type 0 where
  pub whole : List ℕ
  pub whole_is : IsNumeral 10 (without_leading_plus whole)
  pub fraction : List ℕ
  pub nanos : ℕ
  pub fraction_is : IsOptionalFraction fraction nanos
  pub written : text ≡ whole ++ fraction
  pub moment_is : moment.nanos ≡ digits_value 10 (without_leading_plus whole) * second + nanos

-- ---- the text names the moment

-- as seconds since 1970, or as a date and time
abbrev pub IsMomentText : List ℕ → Moment → Type 0
IsMomentText text moment = IsSeconds text moment ⊎ IsDateTime text moment
