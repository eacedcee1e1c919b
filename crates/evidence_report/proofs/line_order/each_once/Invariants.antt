use Rattle.evidence_report.proofs.Rising.{AreOnceSoFar}
use Rattle.evidence_report.proofs.line_order.each_once.Given as goal

abbrev pub invariant-loop-at : goal.invariant-loop-at
invariant-loop-at l = AreOnceSoFar l.refs l.once.items l.at-index
