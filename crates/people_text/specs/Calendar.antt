-- The Gregorian calendar, from the first day of the year 0 on.
use Rattle.std.specs.Prelude.{◌≡◌, ℕ, zero, suc, ◌+◌, ◌-◌, ◌%◌, ◌==◌, ◌&&◌, ◌||◌, Bool, not, nat_le}
use Rattle.std.specs.{Prelude.{if◌then◌else◌, Option, None, Some}, Int.{IsInRange}}

-- RFC 3339, appendix C
abbrev pub is_leap : ℕ → Bool
is_leap year = (year % 4 == 0) && (not (year % 100 == 0) || (year % 400 == 0))

-- RFC 3339, section 5.7
abbrev pub month_length : ℕ → ℕ → ℕ
month_length year month =
    if month == 2 then (if is_leap year then 29 else 28)
    else (if (month == 4) || (month == 6) || (month == 9) || (month == 11) then 30 else 31)

-- the days of so many years, of which the first is the year 0
unfoldable pub days_of_years : ℕ → ℕ
days_of_years zero = 0
days_of_years (suc year) = days_of_years year + (if is_leap year then 366 else 365)

-- the days of so many months of a year
unfoldable pub days_of_months : ℕ → ℕ → ℕ
days_of_months year zero = 0
days_of_months year (suc n) = days_of_months year n + month_length year (suc n)

-- the days before a day
abbrev pub days_before : ℕ → ℕ → ℕ → ℕ
days_before year month day = days_of_years year + days_of_months year (month - 1) + (day - 1)

-- the calendar has this day
abbrev pub is_day : ℕ → ℕ → ℕ → Bool
is_day year month day = (nat_le 1 month && nat_le month 12) && (nat_le 1 day && nat_le day (month_length year month))

-- the days before a day, if the calendar has it
unfoldable pub day_number : ℕ → ℕ → ℕ → Option ℕ
day_number year month day = if is_day year month day then Some (days_before year month day) else None

-- the calendar has this day, and so many days are before it
pub record IsDate (days year month day : ℕ) : Type 0 where
  pub month_is : IsInRange 1 12 month
  pub day_is : IsInRange 1 (month_length year month) day
  pub days_are : days ≡ days_before year month day

-- the last number up to `most` whose begin isn't after `day`
unfoldable pub last_begun : (ℕ → ℕ) → ℕ → ℕ → ℕ
last_begun begin day zero = 0
last_begun begin day (suc n) = if nat_le (begin (suc n)) day then suc n else last_begun begin day n

-- the year, the month and the day of the month that have so many days before them
unfoldable pub year_of : ℕ → ℕ
year_of days = last_begun days_of_years days days

abbrev pub day_of_year : ℕ → ℕ
day_of_year days = days - days_of_years (year_of days)

unfoldable pub month_of : ℕ → ℕ
month_of days = suc (last_begun (days_of_months (year_of days)) (day_of_year days) 11)

unfoldable pub day_of : ℕ → ℕ
day_of days = suc (day_of_year days - days_of_months (year_of days) (month_of days - 1))
