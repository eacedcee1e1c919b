use Rattle.std.proofs.Common.{length}
use Rattle.plain_search.proofs.Collecting.{AreFound}
use Rattle.plain_search.proofs.collected.releases_on.Given as goal

abbrev pub invariant-loop-at : goal.invariant-loop-at
invariant-loop-at g l = AreFound (g.S.Lines.journals l.source) l.delegation l.side
    (g.S.LineSource.returned l.source l.delegation l.walk) l.releases.items

abbrev pub decreases-loop-at : goal.decreases-loop-at
decreases-loop-at g l = length (g.S.LineSource.returned l.source l.delegation l.walk)
