use Rattle.std.proofs.Common.{rules}
use Rattle.auditor.proofs.Bounds.{before_by_latest, never_before}
use Rattle.auditor.proofs.grants.is_written_by.Goals as goal

pub returns-in-Some : goal.returns-in-Some
returns-in-Some g c = before_by_latest _ _ _ _ _ c.in-Some.latest _ c.in-Some.ensures (search rules)

pub returns-in-None : goal.returns-in-None
returns-in-None g c = never_before _ _ _ _ _ c.in-None.ensures
