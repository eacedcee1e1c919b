use Rattle.auditor.proofs.Bounds.{never_lasts}
use Rattle.auditor.proofs.grants.is_lasting.Goals as goal

pub returns-in-None : goal.returns-in-None
returns-in-None g c = never_lasts _ _ _ _ _ _ c.in-None.ensures
