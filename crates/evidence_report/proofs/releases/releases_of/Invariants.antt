use Rattle.std.proofs.Common.{length}
use Rattle.evidence_report.proofs.Shown.{IsGathered}
use Rattle.evidence_report.proofs.releases.releases_of.Given as goal

abbrev pub invariant-loop-at : goal.invariant-loop-at
invariant-loop-at g l = IsGathered (g.S.LineSource.returned l.source l.delegation l.initial.walk) l.refs.items
    (g.S.LineSource.returned l.source l.delegation l.walk)

abbrev pub decreases-loop-at : goal.decreases-loop-at
decreases-loop-at g l = length (g.S.LineSource.returned l.source l.delegation l.walk)
