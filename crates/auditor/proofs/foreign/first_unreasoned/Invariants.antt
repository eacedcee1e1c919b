use Rattle.attribution.specs.Acceptance.{ReasonHolds}
use Rattle.auditor.proofs.Tiling.{HaveHeld}
use Rattle.auditor.proofs.foreign.first_unreasoned.Given as goal

abbrev pub invariant-loop-entry : goal.invariant-loop-entry
invariant-loop-entry g l = HaveHeld (ReasonHolds (g.S.Lines.journals l.source) l.skew l.transit l.certificate)
    l.certificate.foreign l.entry-index
