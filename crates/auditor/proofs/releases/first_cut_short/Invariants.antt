use Rattle.attribution.specs.Acceptance.{IsDischarged}
use Rattle.auditor.proofs.Tiling.{HaveHeld}
use Rattle.auditor.proofs.releases.first_cut_short.Given as goal

abbrev pub invariant-loop-index : goal.invariant-loop-index
invariant-loop-index g l = HaveHeld (IsDischarged (g.S.Lines.journals l.source) l.skew) l.certificate.pieces l.index
