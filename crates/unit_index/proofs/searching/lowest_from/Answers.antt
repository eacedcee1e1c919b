use Rattle.std.proofs.Common.{arith, sym, subst, ap, ◌≡◌, ◌∙◌, ◌+◌, ◌<◌, Option, List, length, get_or}
use Rattle.std.proofs.lemmas.List.{length-map}
use Rattle.prefix_range.specs.Prefix.{Prefix}
use Rattle.book_rules.specs.State.{state}
use Rattle.unit_index.specs.declared.pool_tree.PoolTree.{PoolTree}
use Rattle.unit_index.specs.PoolTrees.{pools_of}
use Rattle.unit_index.proofs.LeastUnits.{IsLeastSo, least_further}
use Rattle.unit_index.proofs.Searches.{pool_at}
use Rattle.unit_index.proofs.searching.lowest_from.Goals as goal

pub loop-chart-preserved : goal.loop-chart-preserved
loop-chart-preserved c =
    let charts = c.args.register.now.charts.items in
    let chart = c.chart-item.result in
    let is : chart ≡ get_or charts c.loop-chart.chart-index chart =
    c.chart-item.is ∙ ap (λ (cs : List PoolTree). get_or cs c.loop-chart.chart-index chart)
    c.deref-chart-items.ensures.value in
    let lt : c.loop-chart.chart-index < length charts =
    omega (arith, c.loop-chart-test.true, ap length c.deref-chart-items.ensures.value) in
    let count = length-map charts (λ (x : PoolTree). x.pool) in
    subst (λ (o : Option Prefix). IsLeastSo (state c.args.register.now.table) c.args.wanted.now c.args.from
    (pools_of charts) (c.loop-chart.chart-index + 1) o) (sym c.lower-best.ensures)
    (least_further _ _ _ (pools_of charts) c.loop-chart.chart-index chart.pool _ _ (omega (arith, lt, count))
    (pool_at charts c.loop-chart.chart-index chart lt is) c.loop-chart.invariant c.lowest_in.ensures)
