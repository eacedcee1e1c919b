use Rattle.std.proofs.Common.{rules}
use Rattle.report_times.proofs.mail_date.dated.Goals as goal

pub returns-in_err-milliseconds-clause-none : goal.returns-in_err-milliseconds-clause-none
returns-in_err-milliseconds-clause-none c = λ none m within is. c.milliseconds_of.ensures.none (search rules) m is
