use Rattle.std.proofs.Common.{◌≡◌, take}
use Rattle.std.specs.List.{All}
use Rattle.book_rules.specs.State.{state}
use Rattle.unit_index.specs.PoolTrees.{HasKinds, pools_of}
use Rattle.unit_index.proofs.pool_tree.building.trees_of.Given as goal

abbrev pub invariant-loop-pool : goal.invariant-loop-pool
invariant-loop-pool l = record {
  pools : pools_of l.charts.items ≡ take l.pool-index l.pool-items;
  kinds : All (HasKinds (state l.table).role (state l.table).units) l.charts.items;
}
