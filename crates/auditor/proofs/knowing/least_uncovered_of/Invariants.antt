use Rattle.std.proofs.Common.{drop}
use Rattle.attribution.specs.FirstRefusal.{IsUncovered}
use Rattle.auditor.proofs.Least.{IsWalked}
use Rattle.auditor.proofs.knowing.least_uncovered_of.Given as goal

abbrev pub invariant-loop-at : goal.invariant-loop-at
invariant-loop-at g l = IsWalked (IsUncovered (g.L.Lines.journals l.lines) l.certificate) l.others
    (drop l.at-index l.others) l.least
