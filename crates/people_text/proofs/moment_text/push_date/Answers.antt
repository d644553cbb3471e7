use Rattle.std.proofs.{Common.{◌≡◌, ℕ, refl, string_bytes, arith}, lemmas.Result.{IfOk-equal}}
use Rattle.people_text.specs.{Calendar.{IsDate}, MomentText.{date_text, date_written, days_to}}
use Rattle.people_text.proofs.CalendarLemmas.{day_of-date, month_length-few, month_of-date, year_of-date}
use Rattle.people_text.proofs.moment_text.push_date.Goals as goal

written : (nanos days year month day : ℕ) → days ≡ days_to nanos → IsDate days year month day
    → date_written year month day ≡ date_text nanos
unfolding date_text
written nanos days year month day at is =
    rw (← at, year_of-date days year month day is, month_of-date days year month day is, day_of-date days year month day is) refl

pub push_written-requires : goal.push_written-requires
push_written-requires c = grind (arith, month_length-few)

pub returns : goal.returns
returns c = grind (arith, IfOk-equal, string_bytes, written)
