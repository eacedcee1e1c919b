use Rattle.journal_merge.proofs.First.{AreNone}
use Rattle.pair_judgement.proofs.CarriedLines.{IsTooLateIn}
use Rattle.pair_judgement.proofs.carrying.first_of.Given as goal

abbrev pub invariant-loop-place : goal.invariant-loop-place
invariant-loop-place l = AreNone (IsTooLateIn l.lines) l.lines l.place
