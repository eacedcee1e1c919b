use Rattle.std.proofs.Common.{◌-◌}
use Rattle.evidence_search.proofs.Widened.{EndsBy}
use Rattle.evidence_search.proofs.widening.to_latest.Given as goal

abbrev pub invariant-loop-alloc : goal.invariant-loop-alloc
invariant-loop-alloc g l = EndsBy (g.S.Lines.journals l.source) l.query l.from l.high l.found

abbrev pub decreases-loop-alloc : goal.decreases-loop-alloc
decreases-loop-alloc g l = l.high - l.found.to
