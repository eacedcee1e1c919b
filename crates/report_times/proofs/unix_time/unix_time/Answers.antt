use Rattle.std.proofs.Common.{rules, ⊎_elim}
use Rattle.report_times.proofs.unix_time.unix_time.Goals as goal

pub returns-clause-none : goal.returns-clause-none
returns-clause-none c = λ none m within is. ⊎_elim
    (λ h. c.bare.ensures.none (search rules) m within h)
    (⊎_elim (λ h. c.with_milliseconds.ensures.none (search rules) m within h)
    (⊎_elim (λ h. c.with_seconds.ensures.none (search rules) m within h)
    (λ h. c.with_decimals.ensures.none none m within h))) is
