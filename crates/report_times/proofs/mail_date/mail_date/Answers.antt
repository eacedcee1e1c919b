use Rattle.std.proofs.Common.{rules, refl}
use Rattle.report_times.proofs.mail_date.mail_date.Goals as goal

pub returns-in-None : goal.returns-in-None
returns-in-None c = λ m within h. c.in-None.ensures.none refl m within h.dated
