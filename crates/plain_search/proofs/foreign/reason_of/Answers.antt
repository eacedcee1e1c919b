use Rattle.std.proofs.Common.{sym, subst, List}
use Rattle.causal_order.specs.declared.reference.Ref.{Ref}
use Rattle.causal_order.specs.declared.order.Precedes.{Precedes}
use Rattle.causal_order.specs.declared.certificate.Reason.TheVariants.{Released}
use Rattle.plain_search.specs.Search.{IsAside, plain_order}
use Rattle.plain_search.proofs.Reasons.{no_reason, released_holds}
use Rattle.plain_search.proofs.foreign.reason_of.Goals as goal

pub returns-in_default-found-clause-none : goal.returns-in_default-found-clause-none
returns-in_default-found-clause-none g c _ =
    no_reason (g.S.Lines.journals c.args.source.now) c.args.query.now c.args.at c.args.delegation.now c.in-Some.granted
    c.in-Some.ensures
    (λ h. let t = c.has_ended.ensures.1 h in absurd (cc)) (λ h. let t = c.begins_late.ensures.1 h in
    absurd (cc)) (rw c.in_default-found.is at c.in_ok-found.ensures.returning)

pub returns-clause-holds : goal.returns-clause-holds
returns-clause-holds g c =
    let js = g.S.Lines.journals c.args.source.now in
    let j = c.in-Some-found.release in
    let returned = rw c.in-Some-found.is at c.in_ok-found.ensures.returning in
    subst (λ (order : Precedes). IsAside js c.args.query.now c.args.at c.args.delegation.now
    (Released j order c.in_ok-latest.latest)) (sym c.in_ok-order.ensures)
    (subst (λ (chain : List Ref). IsAside js c.args.query.now c.args.at c.args.delegation.now
    (Released j (plain_order c.args.at j) chain)) (sym c.in_ok-latest.ensures)
    (released_holds js c.args.query.now c.args.at c.args.delegation.now j returned.0 returned.1))
