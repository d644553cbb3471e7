use Rattle.std.proofs.Common.{◌≡◌, ◌≤◌, ◌-◌, ◌*◌}
use Rattle.people_text.specs.Calendar.{days_of_months}
use Rattle.people_text.proofs.calendar.days_before_month.Given as goal

abbrev pub invariant-loop-earlier : goal.invariant-loop-earlier
invariant-loop-earlier l = record {
  sum : l.days ≡ days_of_months l.year (l.earlier - 1);
  few : l.days ≤ 31 * (l.earlier - 1);
}
