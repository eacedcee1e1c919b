use Rattle.std.proofs.Common.{sym, subst, ◌∙◌}
use Rattle.pair_world.specs.PairWorld.{journal, is_stopped, IsFedBy, IsDownAllowed}
use Rattle.pair_world.proofs.Refusing.{serve_refused}
use Rattle.pair_world.proofs.world.World.serve.Goals as goal

pub returns-clause-refused : goal.returns-clause-refused
returns-clause-refused c =
    let w = c.args.self.now in
    let order = c.args.order.now in
    let fed = subst (λ s. IsFedBy (journal s w).lines order) c.partner.ensures
    (subst (λ ls. IsFedBy ls order) c.lines.ensures (c.is_fed.ensures.0 c.if-not-is_fed.false)) in
    let allowed = subst (λ s. IsDownAllowed (is_stopped s w) order) c.partner-2.ensures
    (subst (λ t. IsDownAllowed t order) c.is_stopped-2.ensures
    (c.may_be_ordered.ensures.0 c.if-not-may_be_ordered.false)) in
    serve_refused w c.answer.new.self c.args.side c.args.clock order c.answer.result
    (c.is_near.ensures.0 c.if-not-is_near.false) (sym c.is_stopped.ensures ∙ c.if-is_stopped.false) fed allowed
    c.answer.ensures.refused
