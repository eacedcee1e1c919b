use Rattle.std.proofs.Common.{◌<◌, ◌-◌}
use Rattle.time_text.specs.Calendar.{days_before_year}
use Rattle.time_text.proofs.calendar.year_with.Given as goal

abbrev pub invariant-loop-year : goal.invariant-loop-year
invariant-loop-year l = days_before_year l.year < l.number

abbrev pub decreases-loop-year : goal.decreases-loop-year
decreases-loop-year l = l.number - l.year
