use Rattle.book_rules.specs.State.{state}
use Rattle.unit_index.specs.PoolTrees.{pools_of}
use Rattle.unit_index.proofs.LeastUnits.{IsLeastSo}
use Rattle.unit_index.proofs.searching.lowest_from.Given as goal

abbrev pub invariant-loop-chart : goal.invariant-loop-chart
invariant-loop-chart l = IsLeastSo (state l.register.table) l.wanted l.from
    (pools_of l.register.charts.items) l.chart-index l.best
