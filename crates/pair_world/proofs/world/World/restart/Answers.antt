use Rattle.std.proofs.Common.{sym, ◌∙◌}
use Rattle.pair_world.proofs.Refusing.{restart_refused}
use Rattle.pair_world.proofs.world.World.restart.Goals as goal

pub returns-in-Err-clause-refused : goal.returns-in-Err-clause-refused
returns-in-Err-clause-refused c =
    restart_refused c.args.self.now c.answer.new.self c.args.side c.args.clock c.in-Err.error
    (c.is_near.ensures.0 c.if-not-is_near.false) (sym c.is_stopped.ensures ∙ c.if-not-is_stopped.false)
    c.in-Err.ensures.refused
