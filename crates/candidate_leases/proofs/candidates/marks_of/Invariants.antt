use Rattle.candidate_leases.proofs.Listed.{AreMarkedSoFar}
use Rattle.candidate_leases.proofs.candidates.marks_of.Given as goal

abbrev pub invariant-loop-at : goal.invariant-loop-at
invariant-loop-at g l = AreMarkedSoFar (g.S.Lines.journals l.source) l.refs l.marks.items l.at-index
