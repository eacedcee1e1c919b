use Rattle.joined_answers.proofs.Walk.{IsOnward, firsts}
use Rattle.joined_answers.proofs.widening.widest.Given as goal

abbrev pub invariant-loop-read : goal.invariant-loop-read
invariant-loop-read g l =
    IsOnward (g.F.JournalFiles.had l.files) l.archive l.query l.settings l.fn.begun l.fn.first l.read l.last

abbrev pub decreases-loop-read : goal.decreases-loop-read
decreases-loop-read g l = firsts l.read
