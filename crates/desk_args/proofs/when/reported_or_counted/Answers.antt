use Rattle.std.proofs.Common.{rules, inl, ⊎_elim}
use Rattle.desk_args.proofs.when.reported_or_counted.Goals as goal

pub returns-in-Ok-clause-given : goal.returns-in-Ok-clause-given
returns-in-Ok-clause-given c = (c.in-Ok.ensures.given.0, inl c.in-Ok.ensures.given.1)

pub returns-in-Err-clause-none : goal.returns-in-Err-clause-none
returns-in-Err-clause-none c = λ other m is. ⊎_elim
    (λ spelled. c.in-Err.ensures.none other m (is.0, spelled))
    (λ number. c.moment_in.ensures.none (search rules) m (number, is.0)) is.1
