use Rattle.std.proofs.Common.{sym, subst}
use Rattle.plain_search.proofs.Reasons.{AreNamed, none_named, not_named, one_named, all_named}
use Rattle.plain_search.proofs.Collecting.{none_recent}
use Rattle.plain_search.proofs.foreign.foreign_entries.Goals as goal

pub loop-grant-init : goal.loop-grant-init
loop-grant-init g c = (
  subst (AreNamed (g.S.Lines.journals c.args.source.now) c.args.query.now
      (g.S.LineSource.left c.args.source.now c.args.query.now.prefix c.overlaps-walk.result))
      (sym c.new-entries.ensures)
      (none_named (g.S.Lines.journals c.args.source.now) c.args.query.now _ c.overlaps-walk.ensures.exact),
  none_recent (g.S.Lines.journals c.args.source.now) c.new-recent.result c.new-recent.ensures,
)

pub loop-grant-preserved-in-Continue-branch-2 : goal.loop-grant-preserved-in-Continue-branch-2
loop-grant-preserved-in-Continue-branch-2 g c = (
  one_named (g.S.Lines.journals c.args.source.now) c.args.query.now _ _ _ _
      (record { grant = c.in-Some.grant; reason = c.in_ok-reason.reason }) c.in-Some-others_at.delegation
      c.in-Some.ensures c.in-Some-others_at.ensures c.in_ok-reason.ensures.holds c.in_ok-push.ensures.pushed
      c.loop-grant.invariant.0,
  c.in_ok-reason.ensures.recent,
)

pub loop-grant-preserved : goal.loop-grant-preserved
loop-grant-preserved g c = (
  not_named (g.S.Lines.journals c.args.source.now) c.args.query.now _ _ c.in-Some.grant _ c.in-Some.ensures
      c.in_default-others_at.ensures c.loop-grant.invariant.0,
  c.loop-grant.invariant.1,
)

pub returns-clause-found : goal.returns-clause-found
returns-clause-found g c = all_named (g.S.Lines.journals c.args.source.now) c.args.query.now _ _ c.in_default.ensures
    c.loop-grant.invariant.0
