use Rattle.std.specs.Prelude.{◌≡◌, List, Some, slice_get}
use Rattle.std.proofs.Common.{arith, ap, length, subst, refl}
use Rattle.std.proofs.lemmas.Option.{slice_get_read}
use Rattle.causal_order.specs.declared.certificate.Piece.{Piece}
use Rattle.attribution.specs.Acceptance.{IsPastPartner}
use Rattle.auditor.proofs.Tiling.{one_more, holds_of_all}
use Rattle.auditor.proofs.opened.are_past_partner.Goals as goal

pub loop-piece-preserved : goal.loop-piece-preserved
loop-piece-preserved g c =
    let at : slice_get c.args.certificate.now.pieces c.loop-piece.piece-index ≡ Some c.piece-item.result =
    subst (λ (ps : List Piece). slice_get ps c.loop-piece.piece-index ≡ Some c.piece-item.result)
    c.as_slice-piece-items.ensures
    (slice_get_read c.as_slice-piece-items.result.now (length c.as_slice-piece-items.result.now)
    c.loop-piece.piece-index c.piece-item.result refl c.loop-piece-test.true c.piece-item.is) in
    one_more (IsPastPartner (g.S.Lines.journals c.args.source.now) c.args.skew) c.args.certificate.now.pieces
    c.loop-piece.piece-index c.piece-item.result at (c.is_past_partner.ensures.0 c.if-not-is_past_partner.false)
    c.loop-piece.invariant

pub returns : goal.returns
returns g c = holds_of_all (IsPastPartner (g.S.Lines.journals c.args.source.now) c.args.skew)
    c.args.certificate.now.pieces c.loop-piece.piece-index (omega (arith, ap length c.as_slice-piece-items.ensures))
    c.loop-piece.invariant
