use Rattle.std.specs.Prelude.{MatchOption}
use Rattle.std.proofs.Common.{subst}
use Rattle.causal_order.specs.declared.reference.Ref.{Ref}
use Rattle.attribution.specs.declared.delegation.Delegation.{Delegation}
use Rattle.causal_order.specs.LineOrder.{IsLeast}
use Rattle.auditor.specs.Refusals.{CutsLeaseShort}
use Rattle.auditor.proofs.ShortCuts.{cut_by_search}
use Rattle.auditor.proofs.releases.cutting_release.Goals as goal

pub returns : goal.returns
returns g c =
    let js = g.S.Lines.journals c.args.source.now in
    cut_by_search js c.args.skew c.args.piece.now _ c.least_cutting.result c.in_ok-lease.ensures
    (subst (λ (d : Delegation). MatchOption c.least_cutting.result ((r : Ref)
    → CutsLeaseShort js c.args.skew c.args.piece.now d r
    → ⊥) (IsLeast (CutsLeaseShort js c.args.skew c.args.piece.now d)))
    c.of_lease.ensures c.least_cutting.ensures)
