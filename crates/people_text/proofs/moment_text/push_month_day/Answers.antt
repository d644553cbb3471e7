use Rattle.std.proofs.{Common.{◌≡◌, ℕ, ◌∷◌, ◌++◌, refl, string_bytes, arith}, lemmas.Result.{IfOk-equal}}
use Rattle.people_text.specs.{Calendar.{IsDate}, MomentText.{days_to, month_day_text, two_digits}}
use Rattle.people_text.proofs.CalendarLemmas.{day_of-date, month_length-few, month_of-date}
use Rattle.people_text.proofs.moment_text.push_month_day.Goals as goal

written : (nanos days year month day : ℕ) → days ≡ days_to nanos → IsDate days year month day
    → two_digits month ++ 45 ∷ two_digits day ≡ month_day_text nanos
unfolding month_day_text
written nanos days year month day at is =
    rw (← at, month_of-date days year month day is, day_of-date days year month day is) refl

pub push_month_day_written-requires : goal.push_month_day_written-requires
push_month_day_written-requires c = grind (arith, month_length-few)

pub returns : goal.returns
returns c = grind (arith, IfOk-equal, string_bytes, written)
