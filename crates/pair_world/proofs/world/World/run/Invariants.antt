use Rattle.std.proofs.Common.{take}
use Rattle.pair_world.specs.PairWorld.{AreDone}
use Rattle.pair_world.proofs.world.World.run.Given as goal

abbrev pub invariant-loop-event : goal.invariant-loop-event
invariant-loop-event l = AreDone l.initial.self (take l.event-index l.events) l.self
