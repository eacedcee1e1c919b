use Rattle.std.proofs.Common.{length}
use Rattle.attribution.specs.FirstRefusal.{IsUncovered}
use Rattle.auditor.proofs.Least.{IsWalked}
use Rattle.auditor.proofs.foreign.least_uncovered.Given as goal

abbrev pub invariant-loop-at : goal.invariant-loop-at
invariant-loop-at g l = IsWalked (IsUncovered (g.S.Lines.journals l.source) l.certificate)
    (g.S.LineSource.left l.source l.certificate.prefix l.initial.walk)
    (g.S.LineSource.left l.source l.certificate.prefix l.walk) l.least

abbrev pub decreases-loop-at : goal.decreases-loop-at
decreases-loop-at g l = length (g.S.LineSource.left l.source l.certificate.prefix l.walk)
