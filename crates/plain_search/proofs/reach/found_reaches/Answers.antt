use Rattle.plain_search.proofs.Carrying.{none_reached, not_reached, one_reached, all_reached}
use Rattle.plain_search.proofs.Collecting.{none_recent}
use Rattle.plain_search.proofs.reach.found_reaches.Goals as goal

pub loop-at-init : goal.loop-at-init
loop-at-init g c = (
  none_reached (g.S.Lines.journals c.args.source.now) c.args.query.now _ _ c.overlaps-walk.ensures.exact
      c.len-bits.ensures.whole c.new-reaches.ensures.items,
  none_recent (g.S.Lines.journals c.args.source.now) c.new-recent.result c.new-recent.ensures,
)

pub loop-at-preserved-in-Continue-branch-2 : goal.loop-at-preserved-in-Continue-branch-2
loop-at-preserved-in-Continue-branch-2 g c =
    let found = rw c.in-Some-found.is at c.in_ok-found.ensures.reach in (
      one_reached (g.S.Lines.journals c.args.source.now) c.args.query.now _ _ c.in-Some.at _ _ c.in-Some-found.reach
          c.in-Some.ensures found.0 found.1 c.in_ok-push.ensures.items c.loop-at.invariant.0,
      c.in_ok-found.ensures.recent,
    )

pub loop-at-preserved : goal.loop-at-preserved
loop-at-preserved g c = (
  not_reached (g.S.Lines.journals c.args.source.now) c.args.query.now _ _ c.in-Some.at _ c.in-Some.ensures
      (rw c.in_default-found.is at c.in_ok-found.ensures.reach) c.loop-at.invariant.0,
  c.in_ok-found.ensures.recent,
)

pub returns-clause-all : goal.returns-clause-all
returns-clause-all g c = all_reached (g.S.Lines.journals c.args.source.now) c.args.query.now _ _ c.in_default.ensures
    c.loop-at.invariant.0
