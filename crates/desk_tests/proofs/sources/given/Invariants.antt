use Rattle.std.proofs.Common.{length}
use Rattle.desk_tests.proofs.sources.given.Given as goal

abbrev pub decreases-loop-at : goal.decreases-loop-at
decreases-loop-at g l = length (g.S.LineSource.left l.source l.prefix l.walk)
