use Rattle.std.proofs.Common.{sym, subst, ◌∙◌}
use Rattle.pair_world.specs.PairWorld.{journal, IsNumbered}
use Rattle.pair_world.proofs.Refusing.{deliver_refused}
use Rattle.pair_world.proofs.world.World.deliver.Goals as goal

pub returns-in-Some-clause-refused : goal.returns-in-Some-clause-refused
returns-in-Some-clause-refused c =
    let w = c.args.self.now in
    let m = c.in-Some.message in
    let numbered = subst (λ s. IsNumbered (journal s w).lines c.args.sent m) c.partner.ensures
    (subst (λ ls. IsNumbered ls c.args.sent m) c.lines.ensures c.in-Some.ensures) in
    deliver_refused w c.answer.new.self c.args.side c.args.sent c.args.clock m c.answer.result
    (c.is_near.ensures.0 c.if-not-is_near.false) (sym c.is_stopped.ensures ∙ c.if-is_stopped.false) numbered
    c.answer.ensures.refused
