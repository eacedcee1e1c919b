use Rattle.std.proofs.Common.{◌-◌}
use Rattle.plain_search.specs.Search.{IsPassed}
use Rattle.evidence_search.proofs.pieces.pieces_of.Given as goal

abbrev pub invariant-loop-alloc : goal.invariant-loop-alloc
invariant-loop-alloc g l = IsPassed l.reaches l.from l.passed

abbrev pub decreases-loop-alloc : goal.decreases-loop-alloc
decreases-loop-alloc g l = l.query.to - l.from
