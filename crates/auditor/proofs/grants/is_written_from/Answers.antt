use Rattle.auditor.proofs.Bounds.{never_after}
use Rattle.auditor.proofs.grants.is_written_from.Goals as goal

pub returns-in-None : goal.returns-in-None
returns-in-None g c = never_after _ _ _ _ _ c.in-None.ensures
