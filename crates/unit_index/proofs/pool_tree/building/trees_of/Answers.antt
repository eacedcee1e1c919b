use Rattle.std.proofs.Common.{arith, ◌∙◌, ap, subst, sym, List}
use Rattle.std.proofs.lemmas.List.Elements.{All-push}
use Rattle.std.specs.Prelude.{All}
use Rattle.book_rules.specs.State.{state}
use Rattle.unit_index.specs.declared.pool_tree.PoolTree.{PoolTree}
use Rattle.unit_index.specs.PoolTrees.{HasKinds, pools_of}
use Rattle.unit_index.proofs.PoolCharts.{charts_push}
use Rattle.unit_index.proofs.pool_tree.building.trees_of.Goals as goal

pub loop-pool-preserved : goal.loop-pool-preserved
loop-pool-preserved c = record {
  pools = ap pools_of c.in_ok-push.ensures.items
      ∙ charts_push _ _ c.pool-item.result c.loop-pool.charts.items c.in_ok-of.field-0
      (omega (arith, c.loop-pool-test.true)) c.pool-item.is c.in_ok-of.ensures.pool c.loop-pool.invariant.pools;
  kinds = subst (λ (cs : List PoolTree). All (HasKinds (state c.args.table.now).role (state c.args.table.now).units)
      cs) (sym c.in_ok-push.ensures.items)
      (All-push (HasKinds (state c.args.table.now).role (state c.args.table.now).units) c.loop-pool.charts.items
      c.in_ok-of.field-0 c.loop-pool.invariant.kinds c.in_ok-of.ensures.kinds);
}
