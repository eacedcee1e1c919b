use Rattle.std.proofs.Common.{inl}
use Rattle.report_times.proofs.local_time.zoned_time.Goals as goal

pub returns-in-Ok-clause-given : goal.returns-in-Ok-clause-given
returns-in-Ok-clause-given c = inl c.in-Ok.ensures.given
