use Rattle.book_rules.specs.State.{state}
use Rattle.unit_index.specs.PoolTrees.{pools_of}
use Rattle.unit_index.proofs.Ends.{IsFirstSo}
use Rattle.unit_index.proofs.ending.first_end.Given as goal

abbrev pub invariant-loop-chart : goal.invariant-loop-chart
invariant-loop-chart l = IsFirstSo (state l.register.table) (pools_of l.register.charts.items) l.chart-index l.first
