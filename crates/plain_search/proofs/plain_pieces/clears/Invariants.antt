use Rattle.std.proofs.Common.{length}
use Rattle.plain_search.proofs.Cleared.{AreCleared}
use Rattle.plain_search.proofs.plain_pieces.clears.Given as goal

abbrev pub invariant-loop-release : goal.invariant-loop-release
invariant-loop-release g l = AreCleared (g.S.Lines.journals l.source) l.skew l.grant l.delegation
    (g.S.LineSource.returned l.source l.delegation l.walk) l.clears

abbrev pub decreases-loop-release : goal.decreases-loop-release
decreases-loop-release g l = length (g.S.LineSource.returned l.source l.delegation l.walk)
