use Rattle.report_times.proofs.local_time.local_moment.Goals as goal

pub returns-in-Ok-None-clause-none : goal.returns-in-Ok-None-clause-none
returns-in-Ok-None-clause-none c other m within is =
    c.in-Ok-None.ensures.none c.in-Ok-None.field-0-is is.shown is.within is.spelled
