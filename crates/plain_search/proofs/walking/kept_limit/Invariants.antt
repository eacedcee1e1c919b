use Rattle.std.proofs.Common.{length}
use Rattle.plain_search.proofs.Kept.{IsKept}
use Rattle.plain_search.proofs.walking.kept_limit.Given as goal

abbrev pub invariant-loop-release : goal.invariant-loop-release
invariant-loop-release g l = IsKept (g.S.Lines.journals l.source) l.skew l.candidate l.delegation l.limit
    (g.S.LineSource.returned l.source l.delegation l.walk) l.kept

abbrev pub decreases-loop-release : goal.decreases-loop-release
decreases-loop-release g l = length (g.S.LineSource.returned l.source l.delegation l.walk)
