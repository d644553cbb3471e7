use Rattle.std.proofs.Common.{◌≡◌, ℕ, refl}
use Rattle.people_text.specs.{Calendar.{IsDate}, MomentText.{days_to, year_at}}
use Rattle.people_text.proofs.CalendarLemmas.{year_of-date}
use Rattle.people_text.proofs.moment_text.year_at.Goals as goal

written : (nanos days year month day : ℕ) → days ≡ days_to nanos → IsDate days year month day → year ≡ year_at nanos
written nanos days year month day at is = rw (← at, year_of-date days year month day is) refl

pub returns : goal.returns
returns c = written c.args.nanos c.day_of.result _ _ _ c.day_of.ensures.days c.date_of.ensures.date
