use Rattle.book_rules.specs.State.{state}
use Rattle.unit_index.proofs.PoolCharts.{IsMadeTo}
use Rattle.unit_index.proofs.pool_tree.PoolTree.of.Given as goal

abbrev pub invariant-loop-index : goal.invariant-loop-index
invariant-loop-index l = IsMadeTo (state l.table).role (state l.table).units l.pool l.chart l.index
