use Rattle.attribution.specs.Acceptance.{IsGranted}
use Rattle.auditor.proofs.Tiling.{HaveHeld}
use Rattle.auditor.proofs.pieces.first_ungranted.Given as goal

abbrev pub invariant-loop-index : goal.invariant-loop-index
invariant-loop-index g l = HaveHeld (IsGranted (g.L.Lines.journals l.lines) l.skew l.transit l.certificate)
    l.certificate.pieces l.index
