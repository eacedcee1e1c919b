use Rattle.std.proofs.Common.{◌≤◌, length}
use Rattle.auditor.proofs.Known.{HasFound}
use Rattle.auditor.proofs.knowing.others_of.Given as goal

abbrev pub invariant-loop-at : goal.invariant-loop-at
invariant-loop-at g l = record {
  found : HasFound (g.S.Lines.journals l.source) l.holder l.prefix
      (g.S.LineSource.left l.source l.prefix l.initial.walk) (g.S.LineSource.left l.source l.prefix l.walk)
      l.others.items;
  few : length l.others.items ≤ l.most;
}

abbrev pub decreases-loop-at : goal.decreases-loop-at
decreases-loop-at g l = length (g.S.LineSource.left l.source l.prefix l.walk)
