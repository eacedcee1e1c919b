use Rattle.evidence_report.specs.Pieces.{EndsDelegation}
use Rattle.evidence_report.proofs.Told.{AreNamedSoFar}
use Rattle.evidence_report.proofs.told_releases.named_releases.Given as goal

abbrev pub invariant-loop-clear : goal.invariant-loop-clear
invariant-loop-clear g l = AreNamedSoFar (EndsDelegation (g.L.Lines.journals l.lines) l.delegation) l.clear-items
    l.refs.items l.clear-index
