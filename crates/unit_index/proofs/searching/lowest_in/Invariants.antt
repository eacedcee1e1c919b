use Rattle.std.proofs.Common.{◌-◌, ◌^◌}
use Rattle.book_rules.specs.State.{state}
use Rattle.unit_index.proofs.LeastUnits.{NoneBefore}
use Rattle.unit_index.proofs.searching.lowest_in.Given as goal

abbrev pub invariant-loop-found : goal.invariant-loop-found
invariant-loop-found l = NoneBefore (state l.table) l.wanted l.from l.chart.pool l.place

abbrev pub decreases-loop-found : goal.decreases-loop-found
decreases-loop-found l = 2 ^ l.chart.chart.levels - l.place
