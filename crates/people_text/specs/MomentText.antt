-- Moments and durations as text for people. Both are in nanoseconds, moments since 1970 in UTC.
use Rattle.std.specs.Prelude.{ℕ, ◌+◌, ◌/◌, ◌%◌, ◌==◌, nat_le, if◌then◌else◌, List, [], ◌∷◌, ◌++◌, codes}
use Rattle.std.specs.Fmt.{decimal}
use Rattle.dns_name.specs.Name.{three_digits}
use Rattle.mdns_capture.specs.Limits.{second}
use Rattle.people_text.specs.Calendar.{day_of, days_of_years, month_of, year_of}

abbrev pub two_digits : ℕ → List ℕ
two_digits n = (48 + n / 10) ∷ (48 + n % 10) ∷ []

abbrev pub four_digits : ℕ → List ℕ
four_digits n = two_digits (n / 100) ++ two_digits (n % 100)

-- whole seconds of a number of nanoseconds
abbrev pub seconds_of : ℕ → ℕ
seconds_of nanos = nanos / second

-- days from the first day of the year 0 to the day of a moment
abbrev pub days_to : ℕ → ℕ
days_to nanos = days_of_years 1970 + seconds_of nanos / 86400

-- the year of a moment
abbrev pub year_at : ℕ → ℕ
year_at nanos = year_of (days_to nanos)

-- full-date of RFC 3339, section 5.6
unfoldable pub date_written : ℕ → ℕ → ℕ → List ℕ
date_written year month day = four_digits year ++ 45 ∷ two_digits month ++ 45 ∷ two_digits day

-- `2026-11-22`
unfoldable pub date_text : ℕ → List ℕ
date_text nanos = date_written (year_at nanos) (month_of (days_to nanos)) (day_of (days_to nanos))

-- `11-22`
unfoldable pub month_day_text : ℕ → List ℕ
month_day_text nanos = two_digits (month_of (days_to nanos)) ++ 45 ∷ two_digits (day_of (days_to nanos))

-- `07:28`
unfoldable pub hours_text : ℕ → List ℕ
hours_text nanos = two_digits (seconds_of nanos / 3600 % 24) ++ 58 ∷ two_digits (seconds_of nanos / 60 % 60)

-- `07:28:19`
unfoldable pub clock_text : ℕ → List ℕ
clock_text nanos = hours_text nanos ++ 58 ∷ two_digits (seconds_of nanos % 60)

-- `07:28:19.196Z`
unfoldable pub time_text : ℕ → List ℕ
time_text nanos = clock_text nanos ++ 46 ∷ three_digits (nanos / 1000000 % 1000) ++ 90 ∷ []

-- `2026-11-22T07:28:19Z`
unfoldable pub seconds_text : ℕ → List ℕ
seconds_text nanos = date_text nanos ++ 84 ∷ clock_text nanos ++ 90 ∷ []

-- `2026-11-22T07:28:19.196Z`
unfoldable pub millis_text : ℕ → List ℕ
millis_text nanos = date_text nanos ++ 84 ∷ clock_text nanos ++ 46 ∷ three_digits (nanos / 1000000 % 1000) ++ 90 ∷ []

-- `2026-11-22T07:28:19.196000042Z`: after the dot milliseconds, microseconds and nanoseconds
unfoldable pub exact_text : ℕ → List ℕ
exact_text nanos =
    date_text nanos ++ 84 ∷ clock_text nanos ++ 46 ∷ three_digits (nanos / 1000000 % 1000) ++ three_digits (nanos / 1000 % 1000)
    ++ three_digits (nanos % 1000) ++ 90 ∷ []

-- so many of a unit, and so many of the next one, unless there are none of it: `3 d 4 h`, `2 min`
unfoldable pub two_units : ℕ → List ℕ → ℕ → List ℕ → List ℕ
two_units count unit below next = decimal count ++ 32 ∷ unit ++ (if below == 0 then [] else 32 ∷ decimal below ++ 32 ∷ next)

-- the greatest of the units that fits, and the next one
unfoldable pub duration_text : ℕ → List ℕ
duration_text nanos =
    let s = seconds_of nanos in
    if s == 0 then codes "under 1 s"
    else (if nat_le 86400 s then two_units (s / 86400) (codes "d") (s / 3600 % 24) (codes "h")
    else (if nat_le 3600 s then two_units (s / 3600) (codes "h") (s / 60 % 60) (codes "min")
    else (if nat_le 60 s then two_units (s / 60) (codes "min") (s % 60) (codes "s") else decimal s ++ codes " s")))
