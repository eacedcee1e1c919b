use Rattle.std.proofs.Common.{arith, sym, subst, ap, ◌≡◌, ◌∙◌, ◌+◌, ◌<◌, Option, List, length, get_or, ℕ}
use Rattle.book_rules.specs.State.{state}
use Rattle.unit_index.specs.declared.pool_tree.PoolTree.{PoolTree}
use Rattle.unit_index.specs.PoolTrees.{HasKinds, pools_of}
use Rattle.unit_index.proofs.Ends.{IsFirstSo, first_at_first, first_further, first_at_last}
use Rattle.unit_index.proofs.ending.first_end.Goals as goal

pub loop-chart-init : goal.loop-chart-init
loop-chart-init c = first_at_first _ _

pub loop-chart-preserved : goal.loop-chart-preserved
loop-chart-preserved c =
    let register = c.args.register.now in
    let b = state register.table in
    let charts = register.charts.items in
    let chart = c.chart-item.result in
    let is : chart ≡ get_or charts c.loop-chart.chart-index chart =
    c.chart-item.is ∙ ap (λ (cs : List PoolTree). get_or cs c.loop-chart.chart-index chart)
    c.deref-chart-items.ensures.value in
    let lt : c.loop-chart.chart-index < length charts =
    omega (arith, c.loop-chart-test.true, ap length c.deref-chart-items.ensures.value) in
    let marked = subst (HasKinds b.role b.units) (sym is) (register.followed.kinds c.loop-chart.chart-index chart lt) in
    subst (λ (o : Option ℕ). IsFirstSo b (pools_of charts) (c.loop-chart.chart-index + 1) o)
    (sym c.earlier-first.ensures)
    (first_further b charts c.loop-chart.chart-index chart c.loop-chart.first c.ends.result
    (sym register.followed.pools) lt is chart.whole marked c.loop-chart.invariant c.ends.ensures)

pub returns : goal.returns
returns c =
    let register = c.args.register.now in
    first_at_last (state register.table) register.charts.items c.loop-chart.chart-index c.loop-chart.first
    (sym register.followed.pools) (omega (
      arith,
      c.loop-chart-test.false,
      ap length c.deref-chart-items.ensures.value,
    )) c.loop-chart.invariant
