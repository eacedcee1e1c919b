use Rattle.plain_search.proofs.Cleared.{one_cleared, all_cleared}
use Rattle.plain_search.proofs.plain_pieces.clears.Goals as goal

pub loop-release-preserved : goal.loop-release-preserved
loop-release-preserved g c =
    one_cleared (g.S.Lines.journals c.args.source.now) c.args.skew c.args.grant c.args.delegation.now _ _ _ _
    (record { release = c.in-Some.release; why = c.in_ok-why.why }) c.in-Some.ensures c.in_ok-why.ensures
    c.in_ok-push.ensures.pushed c.loop-release.invariant

pub returns : goal.returns
returns g c = all_cleared (g.S.Lines.journals c.args.source.now) c.args.skew c.args.grant c.args.delegation.now _ _
    c.in_default.ensures c.loop-release.invariant
