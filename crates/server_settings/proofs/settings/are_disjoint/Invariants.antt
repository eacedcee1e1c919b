use Rattle.std.proofs.Common.{drop}
use Rattle.server_settings.proofs.Pools.{SameDisjoint}
use Rattle.server_settings.proofs.settings.are_disjoint.Given as goal

abbrev pub invariant-loop-index : goal.invariant-loop-index
invariant-loop-index l = SameDisjoint l.pools (drop l.index l.pools)
