use Rattle.candidate_leases.specs.Conditions.{asked_of}
use Rattle.candidate_leases.proofs.Listed.{AreNearSoFar}
use Rattle.candidate_leases.proofs.candidates.candidate_leases.Given as goal

abbrev pub invariant-loop-at : goal.invariant-loop-at
invariant-loop-at g l = AreNearSoFar (g.S.Lines.journals l.source) l.query.prefix (asked_of l.query) l.at-items
    l.leases.items l.at-index
