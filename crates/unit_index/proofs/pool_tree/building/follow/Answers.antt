use Rattle.std.proofs.Common.{arith, ◌∙◌}
use Rattle.unit_index.specs.PoolTrees.{with_unit_at}
use Rattle.unit_index.proofs.PoolCharts.{pools_stay, kinds_on}
use Rattle.unit_index.proofs.pool_tree.building.follow.Goals as goal

pub loop-index-preserved : goal.loop-index-preserved
loop-index-preserved c = record {
  pools = pools_stay c.loop-index.charts c.loop-index.index c.index-charts-index.result _ c.follow.ensures.pool
      ∙ c.loop-index.invariant.pools;
  follows = λ units all. (
      let far = c.loop-index.invariant.follows units all in
      kinds_on c.args.role units (with_unit_at units c.args.prefix.now c.args.unit.now) c.loop-index.charts
      c.loop-index.index c.index-charts-index.result _
      (omega (arith, c.loop-index-test.true, c.loop-index.auto.charts))
      (c.follow.ensures.follows units) far.0 far.1);
}

pub returns-clause-follows : goal.returns-clause-follows
returns-clause-follows c = λ units all k d lt. (c.loop-index.invariant.follows units (λ k d le lt. all k d lt)).0 k d
    (omega arith) (omega (arith, lt, c.loop-index-test.false, c.loop-index.auto.charts))
