use Rattle.std.proofs.Common.{length}
use Rattle.desk_tests.proofs.releases.returned.Given as goal

abbrev pub decreases-loop-at : goal.decreases-loop-at
decreases-loop-at g l = length (g.S.LineSource.returned l.source l.delegation l.walk)
