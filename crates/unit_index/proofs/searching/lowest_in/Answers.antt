use Rattle.book_state.specs.Places.{index_in}
use Rattle.unit_index.proofs.LeastUnits.{none_further, found_first}
use Rattle.unit_index.proofs.PoolCharts.{stands_at}
use Rattle.unit_index.proofs.Searches.{none_passed, none_in_pool}
use Rattle.unit_index.proofs.searching.lowest_in.Goals as goal

pub loop-found-init : goal.loop-found-init
loop-found-init c = record {
  each = λ q there. c.first_place-place.ensures (index_in c.args.chart.now.pool q) q
      (stands_at c.args.chart.now.pool q c.args.chart.now.whole.legal there.1.0.whole there.0) there.1.2;
}

pub returns-then-is_there : goal.returns-then-is_there
returns-then-is_there c =
    let none = none_passed _ _ _ c.loop-found.place c.in-Some.found c.args.chart.now c.args.chart.now.whole.legal
    c.requires c.in-Some.ensures.found.2 c.loop-found.invariant in
    found_first _ _ _ _ c.in-Some.found _ c.args.chart.now.whole.legal none c.unit-prefix.ensures
    (c.is_there.ensures.0 c.if-is_there.true)

pub loop-found-preserved : goal.loop-found-preserved
loop-found-preserved c =
    let none = none_passed _ _ _ c.loop-found.place c.in-Some.found c.args.chart.now c.args.chart.now.whole.legal
    c.requires c.in-Some.ensures.found.2 c.loop-found.invariant in
    none_further _ _ _ _ c.in-Some.found _ c.args.chart.now.whole.legal none c.unit-prefix.ensures
    (λ there. (let yes = c.is_there.ensures.1 there in let out = c.if-is_there.false in absurd (cc)))

pub returns : goal.returns
returns c = none_in_pool _ _ _ c.loop-found.place c.args.chart.now c.args.chart.now.whole c.requires
    (rw c.in_default.is at c.next.ensures.none) c.loop-found.invariant
