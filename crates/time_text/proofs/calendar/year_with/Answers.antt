use Rattle.std.proofs.Common.{arith, ◌-◌, ◌/◌}
use Rattle.time_text.proofs.Years.{years_long, years_short, next_year}
use Rattle.time_text.proofs.calendar.year_with.Goals as goal

pub loop-year-init : goal.loop-year-init
loop-year-init c = omega (arith, years_short ((c.args.number - 1) / 366), c.requires.counted)

pub overflow_add-year : goal.overflow_add-year
overflow_add-year c = omega (arith, years_long c.loop-year.year, c.loop-year.invariant)

pub days_before_year-requires : goal.days_before_year-requires
days_before_year-requires c = omega (arith, years_long c.loop-year.year, c.loop-year.invariant, c.requires.within)

pub overflow_add-year-in-loop-year : goal.overflow_add-year-in-loop-year
overflow_add-year-in-loop-year c = omega (arith, years_long c.loop-year.year, c.loop-year.invariant)

pub loop-year-smaller : goal.loop-year-smaller
loop-year-smaller c = omega (arith, years_long c.loop-year.year, c.loop-year.invariant)

pub returns-clause-not_over : goal.returns-clause-not_over
returns-clause-not_over c = omega (
  arith,
  next_year c.loop-year.year,
  c.days_before_year.ensures.value,
  c.loop-year-test.false,
)
