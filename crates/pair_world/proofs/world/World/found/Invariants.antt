use Rattle.std.specs.BTreeSet.{contains}
use Rattle.pair_world.specs.Holders.{client_cmp, IsNoted}
use Rattle.pair_world.proofs.world.World.found.Given as goal

abbrev pub invariant-loop-index : goal.invariant-loop-index
invariant-loop-index l = IsNoted l.self l.prefix l.index (contains client_cmp l.found)
