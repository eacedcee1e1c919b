use Rattle.pair_world.proofs.HolderLaws.{NoneBetween}
use Rattle.pair_world.proofs.holding.is_released.Given as goal

abbrev pub invariant-loop-place : goal.invariant-loop-place
invariant-loop-place l = NoneBetween l.run l.index l.place l.lease l.now
