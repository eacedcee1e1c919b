use Rattle.joined_answers.proofs.Walk.{firsts}
use Rattle.joined_rulings.proofs.Onward.{IsOnward}
use Rattle.joined_rulings.proofs.walking.walked.Given as goal

abbrev pub invariant-loop-read : goal.invariant-loop-read
invariant-loop-read g l =
    IsOnward (g.F.JournalFiles.had l.files) l.archive l.query l.claim l.fn.begun l.read l.trial

abbrev pub decreases-loop-read : goal.decreases-loop-read
decreases-loop-read g l = firsts l.read
