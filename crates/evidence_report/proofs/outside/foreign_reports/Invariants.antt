use Rattle.evidence_report.specs.Others.{IsForeignReport}
use Rattle.evidence_report.proofs.Shown.{AreShownSoFar}
use Rattle.evidence_report.proofs.outside.foreign_reports.Given as goal

abbrev pub invariant-loop-entry : goal.invariant-loop-entry
invariant-loop-entry g l = AreShownSoFar (IsForeignReport (g.L.Lines.journals l.lines)) l.certificate.foreign
    l.foreign.items l.entry-index
