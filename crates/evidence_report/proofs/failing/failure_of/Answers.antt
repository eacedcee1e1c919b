use Rattle.std.specs.Prelude.{Some}
use Rattle.std.proofs.Common.{sym, subst}
use Rattle.attribution.specs.declared.verdict.Verdict.{Verdict}
use Rattle.attribution.specs.declared.verdict.Verdict.TheVariants.{PastEnd}
use Rattle.attribution.specs.FirstRefusal.{IsVerdict}
use Rattle.evidence_report.specs.declared.faults.Failure.{Failure}
use Rattle.evidence_report.specs.declared.faults.Failure.TheVariants.{PieceRelease as CutShort}
use Rattle.evidence_report.specs.Failures.{IsFailure, IsFailureOf}
use Rattle.evidence_report.proofs.Refused.{past_end_fails, uncarried_fails, cut_short_fails, uncovered_fails}
use Rattle.evidence_report.proofs.Refused.{unreasoned_fails}
use Rattle.evidence_report.proofs.failing.failure_of.Goals as goal

pub returns-in-PastEnd-clause-failure : goal.returns-in-PastEnd-clause-failure
returns-in-PastEnd-clause-failure g c = λ skew transit d h v.
    let js = g.S.Lines.journals c.args.source.now in
    subst (λ (x : Verdict). IsFailureOf js skew transit d x (Some c.past_end.result)) (sym c.in-PastEnd.is)
    (subst (λ (f : Failure). IsFailure js skew transit d (PastEnd c.in-PastEnd.side) f) (sym c.past_end.ensures)
    (past_end_fails js skew transit d c.args.report.now c.in-PastEnd.side h
    (subst (IsVerdict js skew transit d) c.in-PastEnd.is v)))

pub returns-in-PieceGrant-clause-failure : goal.returns-in-PieceGrant-clause-failure
returns-in-PieceGrant-clause-failure g c = λ skew transit d h v.
    let js = g.S.Lines.journals c.args.source.now in
    subst (λ (x : Verdict). IsFailureOf js skew transit d x c.piece_grant.result) (sym c.in-PieceGrant.is)
    (uncarried_fails js skew transit d c.in-PieceGrant.number c.piece_grant.result
    (subst (IsVerdict js skew transit d) c.in-PieceGrant.is v) (c.piece_grant.ensures js skew transit d h))

pub returns-in-PieceRelease-clause-failure : goal.returns-in-PieceRelease-clause-failure
returns-in-PieceRelease-clause-failure g c = λ skew transit d h v.
    let js = g.S.Lines.journals c.args.source.now in
    subst (λ (x : Verdict). IsFailureOf js skew transit d x
    (Some (CutShort c.in-PieceRelease.number c.in-PieceRelease.release))) (sym c.in-PieceRelease.is)
    (cut_short_fails js skew transit d c.in-PieceRelease.number c.in-PieceRelease.release
    (subst (IsVerdict js skew transit d) c.in-PieceRelease.is v))

pub returns-in-Uncovered-clause-failure : goal.returns-in-Uncovered-clause-failure
returns-in-Uncovered-clause-failure g c = λ skew transit d h v.
    let js = g.S.Lines.journals c.args.source.now in
    subst (λ (x : Verdict). IsFailureOf js skew transit d x c.uncovered.result) (sym c.in-Uncovered.is)
    (uncovered_fails js skew transit d c.in-Uncovered.at c.uncovered.result
    (subst (IsVerdict js skew transit d) c.in-Uncovered.is v) c.uncovered.ensures)

pub returns-in-Reason-clause-failure : goal.returns-in-Reason-clause-failure
returns-in-Reason-clause-failure g c = λ skew transit d h v.
    let js = g.S.Lines.journals c.args.source.now in
    subst (λ (x : Verdict). IsFailureOf js skew transit d x c.reason_failure.result) (sym c.in-Reason.is)
    (unreasoned_fails js skew transit d c.in-Reason.field-0 c.reason_failure.result
    (subst (IsVerdict js skew transit d) c.in-Reason.is v) (c.reason_failure.ensures js skew transit d h))
