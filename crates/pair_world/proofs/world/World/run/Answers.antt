use Rattle.std.proofs.Common.{arith}
use Rattle.pair_world.proofs.Runs.{stops, done_on}
use Rattle.pair_world.proofs.world.World.run.Goals as goal

pub returns-in-Err-clause-refused : goal.returns-in-Err-clause-refused
returns-in-Err-clause-refused c =
    stops c.args.events.now c.loop-event.event-index c.event-item.result
    (omega arith) c.event-item.is c.args.self.now c.loop-event.self c.step.new.self c.in-Err.error
    c.loop-event.invariant
    c.in-Err.ensures.refused.0 c.in-Err.ensures.refused.1

pub loop-event-preserved : goal.loop-event-preserved
loop-event-preserved c =
    done_on c.args.events.now c.loop-event.event-index c.event-item.result
    (omega arith) c.event-item.is c.args.self.now c.loop-event.self c.step.new.self c.in-Ok.field-0
    c.loop-event.invariant c.in-Ok.ensures.done
