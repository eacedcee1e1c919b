use Rattle.std.proofs.Common.{◌≡◌, ◌≤◌, ◌+◌}
use Rattle.time_text.specs.Calendar.{days_before_month}
use Rattle.time_text.proofs.calendar.month_with.Given as goal

abbrev pub invariant-loop-month : goal.invariant-loop-month
invariant-loop-month l = (1 ≤ l.day) × (days_before_month l.year l.month + l.day ≡ l.day_of_year)
