use Rattle.attribution.specs.Acceptance.{IsPastPartner}
use Rattle.auditor.proofs.Tiling.{HaveHeld}
use Rattle.auditor.proofs.opened.are_past_partner.Given as goal

abbrev pub invariant-loop-piece : goal.invariant-loop-piece
invariant-loop-piece g l = HaveHeld (IsPastPartner (g.S.Lines.journals l.source) l.skew) l.certificate.pieces
    l.piece-index
