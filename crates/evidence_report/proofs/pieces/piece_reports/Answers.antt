use Rattle.std.specs.Prelude.{◌≡◌, ◌+◌, List, Some, slice_get}
use Rattle.std.proofs.Common.{sym, subst, length, refl}
use Rattle.std.proofs.lemmas.Option.{slice_get_read}
use Rattle.causal_order.specs.declared.certificate.Piece.{Piece}
use Rattle.evidence_report.specs.declared.piece_report.PieceReport.{PieceReport}
use Rattle.evidence_report.specs.Pieces.{IsPieceReport}
use Rattle.evidence_report.proofs.Shown.{AreShownSoFar, one_shown}
use Rattle.evidence_report.proofs.pieces.piece_reports.Goals as goal

pub loop-piece-preserved : goal.loop-piece-preserved
loop-piece-preserved g c =
    let js = g.S.Lines.journals c.args.source.now in
    let pieces = c.as_slice-piece-items.result.now in
    let at : slice_get c.args.certificate.now.pieces c.loop-piece.piece-index ≡ Some c.piece-item.result =
    subst (λ (xs : List Piece). slice_get xs c.loop-piece.piece-index ≡ Some c.piece-item.result)
    c.as_slice-piece-items.ensures
    (slice_get_read pieces (length pieces) c.loop-piece.piece-index c.piece-item.result refl c.loop-piece-test.true
    c.piece-item.is) in
    subst (λ (shown : List PieceReport). AreShownSoFar (IsPieceReport js c.args.skew) c.args.certificate.now.pieces
    shown (c.loop-piece.piece-index + 1)) (sym c.in_ok-push.ensures.items)
    (one_shown (IsPieceReport js c.args.skew) c.args.certificate.now.pieces c.loop-piece.pieces.items
    c.loop-piece.piece-index c.piece-item.result _ at c.in_ok-shown.ensures c.loop-piece.invariant)
