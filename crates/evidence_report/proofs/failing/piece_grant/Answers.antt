use Rattle.std.specs.Prelude.{◌≡◌, List, Some, slice_get}
use Rattle.std.proofs.Common.{arith, length, subst, refl}
use Rattle.std.proofs.lemmas.Option.{slice_get_read}
use Rattle.evidence_report.specs.declared.piece_report.PieceReport.{PieceReport}
use Rattle.evidence_report.proofs.Refusing.{uncarried_at}
use Rattle.evidence_report.proofs.failing.piece_grant.Goals as goal

pub returns : goal.returns
returns c = λ js skew transit d h k p e at.
    let found = c.in_ok-shown.ensures.lookup in
    let items = c.deref.result.now in
    let index = c.saturating_sub-index.result in
    let there = subst (λ (xs : List PieceReport). slice_get xs index ≡ Some c.in_ok-shown.shown.now) c.deref.ensures.value
    (slice_get_read items (length items) index c.in_ok-shown.shown.now refl found.3.0 found.1) in (
      c.in_ok-fault.fault,
      refl,
      uncarried_at js skew transit d c.args.report.now h k index p c.in_ok-shown.shown.now c.in_ok-fault.fault
          (omega arith) at there c.in_ok-fault.ensures,
    )
