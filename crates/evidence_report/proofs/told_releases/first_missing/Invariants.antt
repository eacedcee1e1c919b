use Rattle.evidence_report.proofs.InOrder.{AreSharedSoFar}
use Rattle.evidence_report.proofs.told_releases.first_missing.Given as goal

abbrev pub invariant-loop-index : goal.invariant-loop-index
invariant-loop-index l = AreSharedSoFar l.refs l.those l.index
