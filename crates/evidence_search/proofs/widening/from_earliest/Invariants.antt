use Rattle.std.proofs.Common.{◌-◌}
use Rattle.evidence_search.proofs.Widened.{BeginsFrom}
use Rattle.evidence_search.proofs.widening.from_earliest.Given as goal

abbrev pub invariant-loop-low : goal.invariant-loop-low
invariant-loop-low g l = BeginsFrom (g.S.Lines.journals l.source) l.query l.low l.found

abbrev pub decreases-loop-low : goal.decreases-loop-low
decreases-loop-low g l = l.found.from - l.low
