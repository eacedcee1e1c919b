use Rattle.std.specs.Prelude.{◌≡◌, List, Some, slice_get}
use Rattle.std.proofs.Common.{arith, ap, length, subst, refl}
use Rattle.std.proofs.lemmas.Option.{slice_get_read}
use Rattle.attribution.specs.Acceptance.{IsPastPartner}
use Rattle.auditor.proofs.Tiling.{one_more, all_held}
use Rattle.evidence_report.specs.declared.piece_report.PieceReport.{PieceReport}
use Rattle.evidence_report.specs.Pieces.{IsPieceReport}
use Rattle.evidence_report.proofs.Refusing.{one_for}
use Rattle.evidence_report.proofs.failing.piece_before_open.Goals as goal

pub returns-in-Some : goal.returns-in-Some
returns-in-Some c = λ js skew transit d h.
    let i = c.loop-index.index in
    let items = c.deref-shown-items.result.now in
    let at = subst (λ (xs : List PieceReport). slice_get xs i ≡ Some c.shown-item.result)
    c.deref-shown-items.ensures.value
    (slice_get_read items (length items) i c.shown-item.result refl c.loop-index-test.true c.shown-item.is) in
    let of = one_for (IsPieceReport js skew) d.pieces c.args.report.now.pieces.items i c.shown-item.result h.pieces at in
    (i, of.0, refl, of.1, c.in-Some.ensures js skew transit d of.0 h of.2)

pub loop-index-preserved : goal.loop-index-preserved
loop-index-preserved c = λ js skew transit d h.
    let i = c.loop-index.index in
    let items = c.deref-shown-items.result.now in
    let at = subst (λ (xs : List PieceReport). slice_get xs i ≡ Some c.shown-item.result)
    c.deref-shown-items.ensures.value
    (slice_get_read items (length items) i c.shown-item.result refl c.loop-index-test.true c.shown-item.is) in
    let of = one_for (IsPieceReport js skew) d.pieces c.args.report.now.pieces.items i c.shown-item.result h.pieces at in
    one_more (IsPastPartner js skew) d.pieces i of.0 of.1 (c.in_default.ensures js skew transit d of.0 h of.2)
    (c.loop-index.invariant js skew transit d h)

pub returns : goal.returns
returns c = λ js skew transit d h. all_held (IsPastPartner js skew) d.pieces c.loop-index.index
    (omega (arith, h.pieces.count, ap length c.deref-shown-items.ensures.value))
    (c.loop-index.invariant js skew transit d h)
