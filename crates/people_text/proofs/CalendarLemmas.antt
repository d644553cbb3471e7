-- The sums of the calendar in closed form, and the one date with so many days before it.
use Rattle.std.proofs.Common.{◌≡◌, refl, ◌∙◌, ap, ℕ, zero, suc, ◌+◌, ◌-◌, ◌*◌, ◌/◌, ◌<◌, ◌≤◌}
use Rattle.std.proofs.{Common.{if◌then◌else◌, arith}, lemmas.Bool.Decides.{nat_tests}}
use Rattle.people_text.specs.Calendar.{IsDate, day_of, days_of_months, days_of_years, last_begun, is_leap, month_length, month_of, year_of}

-- ---- years

abbrev year_length : ℕ → ℕ
year_length year = if is_leap year then 366 else 365

abbrev pub closed : ℕ → ℕ
closed count = count * 365 + (count + 3) / 4 - (count + 99) / 100 + (count + 399) / 400

closed-suc : (n : ℕ) → closed (suc n) ≡ closed n + year_length n
closed-suc n = grind (arith, nat_tests)

pub days_of_years_closed : (n : ℕ) → days_of_years n ≡ closed n
unfolding days_of_years
days_of_years_closed zero = refl
days_of_years_closed (suc n) = rw (days_of_years_closed n, closed-suc n) refl

years_none : days_of_years 0 ≡ 0
years_none = days_of_years_closed 0

pub days_of_years_1970 : days_of_years 1970 ≡ 719528
days_of_years_1970 = days_of_years_closed 1970

-- the estimate of the year is this one or the one before
pub estimate_begun : (days year : ℕ) → 2 ≤ days → year ≡ (days - 2) * 400 / 146097 → closed year ≤ days
estimate_begun days year low is = omega arith

pub estimate_next : (days year : ℕ) → 2 ≤ days → year ≡ (days - 2) * 400 / 146097 → days < closed (year + 1 + 1)
estimate_next days year low is = omega arith

-- ---- months

pub months_more : (year month : ℕ) → 1 ≤ month → days_of_months year month ≡ days_of_months year (month - 1) + month_length year month
unfolding days_of_months
months_more year zero low = absurd (omega arith)
months_more year (suc month) low = let back : suc month - 1 ≡ month = omega arith in rw back refl

pub months_none : (year : ℕ) → days_of_months year 0 ≡ 0
unfolding days_of_months
months_none year = refl

-- twelve months are a year
pub months_year : (year : ℕ) → days_of_months year 12 ≡ year_length year
unfolding days_of_months
months_year year = grind arith

pub years_more : (year : ℕ) → days_of_years (year + 1) ≡ days_of_years year + year_length year
unfolding days_of_years
years_more year = let next : year + 1 ≡ suc year = omega arith in rw next refl

years-next : (year : ℕ) → days_of_years (suc year) ≡ days_of_years year + year_length year
unfolding days_of_years
years-next year = refl

pub month_within : (year month day left : ℕ) → 1 ≤ month → month ≤ 12 → day < days_of_months year 12
    → day ≡ days_of_months year (month - 1) + left → month_length year month ≤ left → month + 1 ≤ 12
month_within year month day left low high within is long = grind (arith, nat_tests, months_more)

-- ---- the last that has begun

last_begun-is : (begin : ℕ → ℕ) (day k n : ℕ) → k ≤ n → begin k ≤ day → ((j : ℕ) → k < j → day < begin j) → last_begun begin day n ≡ k
unfolding last_begun
last_begun-is begin day k zero within begun later = omega arith
last_begun-is begin day k (suc n) within begun later = grind (arith, nat_tests, later (suc n), last_begun-is begin day k n)

-- a sum of lengths that aren't 0 rises
rises : (begin : ℕ → ℕ) → ((n : ℕ) → begin n < begin (suc n)) → (k j : ℕ) → k ≤ j → begin k ≤ begin j
rises begin more k zero within = let same : k ≡ 0 = omega arith in rw same (omega arith)
rises begin more k (suc j) within = grind (arith, more j, rises begin more k j)

year_length-some : (year : ℕ) → 365 ≤ year_length year
year_length-some year = grind (arith, nat_tests)

month_length-some : (year month : ℕ) → 28 ≤ month_length year month
month_length-some year month = grind (arith, nat_tests)

years-rise : (n : ℕ) → days_of_years n < days_of_years (suc n)
unfolding days_of_years
years-rise n = let some = year_length-some n in omega arith

months-rise : (year n : ℕ) → days_of_months year n < days_of_months year (suc n)
unfolding days_of_months
months-rise year n = let some = month_length-some year (suc n) in omega arith

years-count : (n : ℕ) → n ≤ days_of_years n
unfolding days_of_years
years-count zero = omega arith
years-count (suc n) = let some = year_length-some n in let at = years-count n in omega arith

-- ---- a date is that of its days

year-is : (days year month day : ℕ) → IsDate days year month day → days < days_of_years (suc year)
unfolding days_of_years
year-is days year month day date =
    let more = months_more year month date.month_is.0 in
    let within = rises (λ n. days_of_months year n) (months-rise year) month 12 date.month_is.1 in
    let whole = months_year year in
    omega (arith, date.days_are, date.day_is.0, date.day_is.1)

pub year_of-date : (days year month day : ℕ) → IsDate days year month day → year_of days ≡ year
unfolding year_of
year_of-date days year month day date =
    let begun : days_of_years year ≤ days = omega (arith, date.days_are) in
    let below = years-count year in
    let next = year-is days year month day date in
    last_begun-is days_of_years days year days (omega arith) begun
    (λ j above. let at = rises days_of_years years-rise (suc year) j (omega arith) in omega arith)

pub month_of-date : (days year month day : ℕ) → IsDate days year month day → month_of days ≡ month
unfolding month_of
month_of-date days year month day date =
    let low = date.month_is.0 in
    let rest : days - days_of_years year ≡ days_of_months year (month - 1) + (day - 1) = omega (arith, date.days_are) in
    let more = months_more year month low in
    let back : suc (month - 1) ≡ month = omega arith in
    rw (year_of-date days year month day date, rest)
    (ap suc
    (last_begun-is (λ n. days_of_months year n) (days_of_months year (month - 1) + (day - 1)) (month - 1) 11
    (omega (arith, date.month_is.1)) (omega arith)
    (λ j above. let at = rises (λ n. days_of_months year n) (months-rise year) month j (omega arith) in
    omega (arith, date.day_is.0, date.day_is.1)))
    ∙ back)

pub day_of-date : (days year month day : ℕ) → IsDate days year month day → day_of days ≡ day
unfolding day_of
day_of-date days year month day date = grind (arith, month_of-date, year_of-date)

-- ---- each day has its date

begun_by : (begin : ℕ → ℕ) (day n : ℕ) → begin 0 ≤ day → (begin (last_begun begin day n) ≤ day) × (last_begun begin day n ≤ n)
unfolding last_begun
begun_by begin day zero first = (first, omega arith)
begun_by begin day (suc n) first = grind (arith, nat_tests, begun_by begin day n first)

not_begun : (begin : ℕ → ℕ) (day n j : ℕ) → last_begun begin day n < j → j ≤ n → day < begin j
unfolding last_begun
not_begun begin day zero j above within = absurd (omega arith)
not_begun begin day (suc n) j above within = grind (arith, nat_tests, not_begun begin day n j)

-- where the one after `n` begins later, the last that has begun ends later too
begun_is : (begin : ℕ → ℕ) (day n : ℕ) → begin 0 ≤ day → day < begin (suc n)
    → (begin (last_begun begin day n) ≤ day) × (day < begin (suc (last_begun begin day n))) × (last_begun begin day n ≤ n)
begun_is begin day n first after = grind (arith, begun_by begin day n first, not_begun begin day n (suc (last_begun begin day n)))

pub date-is : (days : ℕ) → IsDate days (year_of days) (month_of days) (day_of days)
unfolding year_of month_of day_of
date-is days =
    let none : days_of_years 0 ≤ days = omega (arith, years_none) in
    let year = begun_is days_of_years days days none (omega (arith, years-count (suc days))) in
    let whole = months_year (year_of days) in
    let length : days_of_years (suc (year_of days)) ≡ days_of_years (year_of days) + year_length (year_of days) = years-next (year_of days) in
    let rest : ℕ = days - days_of_years (year_of days) in
    let within : rest < days_of_months (year_of days) 12 = omega (arith, year.0, year.1) in
    let month : ℕ = last_begun (days_of_months (year_of days)) rest 11 in
    let at = begun_is (days_of_months (year_of days)) rest 11 (omega (arith, months_none (year_of days))) within in
    let more = months_more (year_of days) (suc month) (omega arith) in
    let back : suc month - 1 ≡ month = omega arith in
    record {
      month_is = (omega arith, omega (arith, at.2));
      day_is = (omega arith, rw back (omega (arith, at.0, at.1, rw back at more)));
      days_are = rw back (omega (arith, at.0, year.0));
    }

pub month_length-few : (year month : ℕ) → month_length year month ≤ 31
month_length-few year month = grind (arith, nat_tests)

-- WHAT FUNCTIONS ARE PROVED BY

pub ruleset estimates = (days_of_years_closed, estimate_begun, estimate_next)

pub ruleset months = (month_within, months_more, months_none)
