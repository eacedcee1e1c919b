use Rattle.std.proofs.Common.{rules, refl, inl, ⊎_elim}
use Rattle.report_times.proofs.spelling.told_time.Goals as goal

pub returns-in-Some-clause-given : goal.returns-in-Some-clause-given
returns-in-Some-clause-given c = inl c.in-Some.ensures.given

pub returns-in-Ok-None-clause-none : goal.returns-in-Ok-None-clause-none
returns-in-Ok-None-clause-none c = λ other m within is. ⊎_elim
    (λ h. c.counted_or_dated.ensures.none (search rules) m within h)
    (λ h. c.in-Ok-None.ensures.none (search rules) m within h) is
