use Rattle.evidence_report.proofs.Shown.{AreReportedSoFar}
use Rattle.evidence_report.proofs.releases.reports_of.Given as goal

abbrev pub invariant-loop-at : goal.invariant-loop-at
invariant-loop-at g l = AreReportedSoFar (g.L.Lines.journals l.lines) l.skew l.piece l.refs l.releases.items l.at-index
