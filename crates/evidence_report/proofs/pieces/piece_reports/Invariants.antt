use Rattle.evidence_report.specs.Pieces.{IsPieceReport}
use Rattle.evidence_report.proofs.Shown.{AreShownSoFar}
use Rattle.evidence_report.proofs.pieces.piece_reports.Given as goal

abbrev pub invariant-loop-piece : goal.invariant-loop-piece
invariant-loop-piece g l = AreShownSoFar (IsPieceReport (g.S.Lines.journals l.source) l.skew) l.certificate.pieces
    l.pieces.items l.piece-index
