use Rattle.std.proofs.Common.{arith}
use Rattle.time_text.proofs.Years.{first_day_is, four_digits}
use Rattle.time_text.proofs.moment.date_at.Goals as goal

pub returns-clause-four_digits : goal.returns-clause-four_digits
returns-clause-four_digits c = four_digits c.with_number.result c.with_number.ensures.date
    (omega (arith, c.with_number.ensures.number, first_day_is, c.requires))
