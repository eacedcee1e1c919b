use Rattle.std.specs.Prelude.{List}
use Rattle.std.proofs.Common.{subst, sym, refl}
use Rattle.causal_order.specs.declared.reference.Ref.{Ref}
use Rattle.evidence_report.specs.Lines.{AreExactly}
use Rattle.evidence_report.specs.Marks.{IsGrantedAt}
use Rattle.evidence_report.specs.Pieces.{EndsDelegation}
use Rattle.evidence_report.proofs.Shown.{by_grant, by_nothing}
use Rattle.evidence_report.proofs.Told.{are_exactly}
use Rattle.evidence_report.proofs.pieces.releases_of_grant.Goals as goal

pub returns-in_default : goal.returns-in_default
returns-in_default g c =
    let js = g.S.Lines.journals c.args.source.now in
    by_nothing js c.args.skew c.args.piece.now _ c.new.ensures.items refl
    (subst (IsGrantedAt js c.args.piece.now.grant) c.in_default.is c.requires)

pub release_reports-requires : goal.release_reports-requires
release_reports-requires g c =
    let js = g.S.Lines.journals c.args.source.now in
    subst (AreExactly (EndsDelegation js c.of_lease-delegation.result)) (sym c.deref.ensures.value)
    (are_exactly js c.of_lease-delegation.result c.in_ok-releases.releases.items c.in_ok-releases.ensures.releases
    c.in_ok-releases.ensures.once)

pub returns : goal.returns
returns g c =
    let js = g.S.Lines.journals c.args.source.now in
    by_grant js c.args.skew c.args.piece.now c.in-Some.granted _ _
    (subst (IsGrantedAt js c.args.piece.now.grant) c.in-Some.is c.requires) c.of_lease-delegation.ensures
    c.in_ok-shown.ensures
