use Rattle.std.proofs.Common.{◌≡◌, ◌≤◌, ◌+◌, ◌-◌}
use Rattle.people_text.specs.Calendar.{days_of_months}
use Rattle.people_text.proofs.calendar.month_and_day.Given as goal

abbrev pub invariant-loop-left : goal.invariant-loop-left
invariant-loop-left l = record {
  low : 1 ≤ l.month;
  high : l.month ≤ 12;
  sum : l.day_of_year ≡ days_of_months l.year (l.month - 1) + l.left;
}

abbrev pub decreases-loop-left : goal.decreases-loop-left
decreases-loop-left l = 12 - l.month
