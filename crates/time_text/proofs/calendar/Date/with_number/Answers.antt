use Rattle.std.proofs.Common.{arith}
use Rattle.time_text.proofs.Years.{years_long}
use Rattle.time_text.proofs.calendar.Date.with_number.Goals as goal

pub days_before_year-requires : goal.days_before_year-requires
days_before_year-requires c = omega (
  arith,
  years_long c.year_with-year.result,
  c.year_with-year.ensures.begun,
  c.requires.within,
)
