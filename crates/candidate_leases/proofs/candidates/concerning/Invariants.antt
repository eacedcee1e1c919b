use Rattle.std.proofs.Common.{length}
use Rattle.candidate_leases.proofs.Listed.{IsGathered}
use Rattle.candidate_leases.proofs.candidates.concerning.Given as goal

abbrev pub invariant-loop-at : goal.invariant-loop-at
invariant-loop-at g l = IsGathered (g.S.LineSource.left l.source l.prefix l.initial.walk) l.refs.items
    (g.S.LineSource.left l.source l.prefix l.walk)

abbrev pub decreases-loop-at : goal.decreases-loop-at
decreases-loop-at g l = length (g.S.LineSource.left l.source l.prefix l.walk)
