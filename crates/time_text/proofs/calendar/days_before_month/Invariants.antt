use Rattle.std.proofs.Common.{◌≡◌}
use Rattle.time_text.specs.Calendar.{days_before_month}
use Rattle.time_text.proofs.calendar.days_before_month.Given as goal

abbrev pub invariant-loop-earlier : goal.invariant-loop-earlier
invariant-loop-earlier l = l.days ≡ days_before_month l.year l.earlier
