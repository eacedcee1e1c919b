use Rattle.evidence_report.proofs.Lookup.{AreFoundSoFar}
use Rattle.evidence_report.proofs.citing.found.Given as goal

abbrev pub invariant-loop-at : goal.invariant-loop-at
invariant-loop-at g l = AreFoundSoFar (g.L.Lines.journals l.lines) l.refs l.cited.items l.at-index
