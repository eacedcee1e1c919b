use Rattle.std.specs.Prelude.{◌≡◌, ◌-◌, List, Some, slice_get}
use Rattle.std.proofs.Common.{arith, length, subst, refl}
use Rattle.std.proofs.lemmas.Option.{slice_get_read}
use Rattle.causal_order.specs.declared.certificate.Piece.{Piece}
use Rattle.evidence_report.proofs.Refusing.{begins_behind}
use Rattle.evidence_report.proofs.failing.begin_at.Goals as goal

pub returns-in-Some : goal.returns-in-Some
returns-in-Some c = λ within.
    let found = c.in-Some.ensures.lookup in
    begins_behind c.args.certificate.now.from c.args.certificate.now.pieces (c.args.index - 1) c.args.index
    c.in-Some.before.now (let n = c.if-index-eq0.false in omega arith)
    (subst (λ (ps : List Piece). slice_get ps (c.args.index - 1) ≡ Some c.in-Some.before.now) c.as_slice-pieces.ensures
    (slice_get_read c.as_slice-pieces.result.now (length c.as_slice-pieces.result.now) (c.args.index - 1)
    c.in-Some.before.now refl found.3.0 found.1))
