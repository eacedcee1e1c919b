use Rattle.std.proofs.Common.{◌≡◌, ap, arith, length, subst}
use Rattle.attribution.specs.Run.{Step, At}
use Rattle.pair_world.specs.PairWorld.{PairWorld}
use Rattle.pair_world.specs.Holders.{MayHold}
use Rattle.pair_world.proofs.HolderLaws.{has_by, at_index}
use Rattle.pair_world.proofs.world.World.held_by.Goals as goal

pub returns : goal.returns
returns c =
    let run : c.self.inside.run.items ≡ c.args.self.now.run = ap (λ (w : PairWorld). w.run) c.self.view_is in
    let long : length c.self.inside.run.items ≡ length c.args.self.now.run = ap length run in
    let here = subst (λ xs. At xs c.args.index c.index-step.result.now) run
    (at_index c.self.inside.run.items c.args.index c.index-step.result.now
    (omega (arith, long)) c.index-step.ensures) in
    let may = subst (λ (s : Step). MayHold c.args.self.now c.args.prefix.now c.args.index s.moment c.in_ok-lease.lease)
    c.step.view_is (c.may_hold.ensures.0 c.if-not-may_hold.false) in
    has_by c.args.self.now c.args.prefix.now c.args.index c.index-step.result.now c.in_ok-lease.lease here
    c.in_ok-lease.ensures may
