use Rattle.std.specs.Prelude.{slice_get}
use Rattle.std.proofs.Common.{arith, ap, length, subst, refl, List, ◌≡◌, Some}
use Rattle.std.proofs.lemmas.Option.{slice_get_read}
use Rattle.causal_order.specs.declared.certificate.Piece.{Piece}
use Rattle.attribution.specs.Acceptance.{IsDischarged}
use Rattle.auditor.proofs.Tiling.{one_more, all_held}
use Rattle.auditor.proofs.releases.first_cut_short.Goals as goal

pub loop-index-preserved : goal.loop-index-preserved
loop-index-preserved g c =
    let at : slice_get c.args.certificate.now.pieces c.loop-index.index ≡ Some c.piece-item.result =
    subst (λ (ps : List Piece). slice_get ps c.loop-index.index ≡ Some c.piece-item.result)
    c.as_slice-piece-items.ensures
    (slice_get_read c.as_slice-piece-items.result.now (length c.as_slice-piece-items.result.now) c.loop-index.index
    c.piece-item.result refl (omega arith) c.piece-item.is) in
    one_more (IsDischarged (g.S.Lines.journals c.args.source.now) c.args.skew) c.args.certificate.now.pieces
    c.loop-index.index c.piece-item.result at c.in_default.ensures c.loop-index.invariant

pub returns : goal.returns
returns g c = all_held (IsDischarged (g.S.Lines.journals c.args.source.now) c.args.skew) c.args.certificate.now.pieces
    c.loop-index.index (omega (arith, ap length c.as_slice-piece-items.ensures)) c.loop-index.invariant
