use Rattle.std.proofs.Common.{length}
use Rattle.auditor.specs.Refusals.{CutsLeaseShort}
use Rattle.auditor.proofs.Least.{IsWalked}
use Rattle.auditor.proofs.releases.least_cutting.Given as goal

abbrev pub invariant-loop-at : goal.invariant-loop-at
invariant-loop-at g l = IsWalked (CutsLeaseShort (g.S.Lines.journals l.source) l.skew l.piece l.delegation)
    (g.S.LineSource.returned l.source l.delegation l.initial.walk)
    (g.S.LineSource.returned l.source l.delegation l.walk) l.least

abbrev pub decreases-loop-at : goal.decreases-loop-at
decreases-loop-at g l = length (g.S.LineSource.returned l.source l.delegation l.walk)
