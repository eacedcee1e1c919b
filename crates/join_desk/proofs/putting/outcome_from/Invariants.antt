use Rattle.std.proofs.Common.{length}
use Rattle.join_desk.proofs.Outcomes.{IsOnward}
use Rattle.join_desk.proofs.putting.outcome_from.Given as goal

abbrev pub invariant-loop-rest : goal.invariant-loop-rest
invariant-loop-rest g l =
    IsOnward (g.F.JournalFiles.had l.files) l.fn.begun l.first l.later l.joined l.count l.before l.rest

abbrev pub decreases-loop-rest : goal.decreases-loop-rest
decreases-loop-rest g l = length l.rest
