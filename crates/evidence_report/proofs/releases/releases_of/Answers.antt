use Rattle.evidence_report.proofs.Shown.{releases_once}
use Rattle.evidence_report.proofs.releases.releases_of.Goals as goal

pub returns-clause-releases : goal.returns-clause-releases
returns-clause-releases g c = releases_once _ _ _ c.loop-at.refs.items _ _ c.releases-walk.ensures.exact
    c.in_default.ensures c.loop-at.invariant c.in_ok-once.ensures
