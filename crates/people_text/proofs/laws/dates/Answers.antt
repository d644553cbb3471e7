use Rattle.std.proofs.Common.{sym}
use Rattle.people_text.proofs.CalendarLemmas.{date-is, day_of-date, month_of-date, year_of-date}
use Rattle.people_text.proofs.laws.dates.Goals as goal

pub returns-clause-date : goal.returns-clause-date
returns-clause-date c days = date-is days

pub returns-clause-one : goal.returns-clause-one
returns-clause-one c days year month day is =
    (sym (year_of-date days year month day is), sym (month_of-date days year month day is), sym (day_of-date days year month day is))
