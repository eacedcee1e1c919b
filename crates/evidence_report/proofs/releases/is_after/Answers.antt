use Rattle.evidence_report.proofs.Clearing.{never_after}
use Rattle.evidence_report.proofs.releases.is_after.Goals as goal

pub returns-in-None : goal.returns-in-None
returns-in-None g c = never_after _ _ _ _ _ c.in-None.ensures
