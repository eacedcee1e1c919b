use Rattle.std.proofs.Common.{length}
use Rattle.plain_search.proofs.Kept.{NoneReturned}
use Rattle.plain_search.proofs.walking.returning.Given as goal

abbrev pub invariant-loop-release : goal.invariant-loop-release
invariant-loop-release g l = NoneReturned (g.S.Lines.journals l.source) l.query l.at l.delegation
    (g.S.LineSource.returned l.source l.delegation l.walk)

abbrev pub decreases-loop-release : goal.decreases-loop-release
decreases-loop-release g l = length (g.S.LineSource.returned l.source l.delegation l.walk)
