use Rattle.std.proofs.Common.{◌≡◌, ◌++◌, take}
use Rattle.pair_world.specs.PairWorld.{steps_of}
use Rattle.pair_world.proofs.world.add_steps.Given as goal

abbrev pub invariant-loop-line : goal.invariant-loop-line
invariant-loop-line l = l.run.items ≡ l.initial.run.items ++ steps_of l.side l.moment (take l.line-index l.lines)
