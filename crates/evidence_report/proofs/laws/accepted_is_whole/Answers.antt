use Rattle.evidence_report.proofs.Wholly.{accepted_is_whole}
use Rattle.evidence_report.proofs.laws.accepted_is_whole.Goals as goal

pub returns : goal.returns
returns c = accepted_is_whole
