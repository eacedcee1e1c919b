use Rattle.std.proofs.Common.{rules, ⊎_elim}
use Rattle.report_times.proofs.spelling.counted_or_dated.Goals as goal

pub returns-in-None-clause-none : goal.returns-in-None-clause-none
returns-in-None-clause-none c = λ none m within is. ⊎_elim
    (λ h. c.unix_time.ensures.none (search rules) m within h)
    (λ h. c.dated.ensures.none none m within h) is
