use Rattle.std.proofs.Common.{length}
use Rattle.evidence_search.proofs.pieces.clears.Given as goal

abbrev pub decreases-loop-release : goal.decreases-loop-release
decreases-loop-release g l = length (g.S.LineSource.returned l.source l.delegation l.walk)
