use Rattle.evidence_report.proofs.CutShort.{refusal_is_told}
use Rattle.evidence_report.proofs.laws.refusal_is_told.Goals as goal

pub returns : goal.returns
returns c = refusal_is_told
