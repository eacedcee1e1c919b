use Rattle.std.proofs.Common.{length}
use Rattle.plain_search.specs.Collected.{IsRecent}
use Rattle.evidence_search.proofs.pieces.reaches.Given as goal

abbrev pub invariant-loop-at : goal.invariant-loop-at
invariant-loop-at g l = IsRecent (g.S.Lines.journals l.source) l.recent

abbrev pub decreases-loop-at : goal.decreases-loop-at
decreases-loop-at g l = length (g.S.LineSource.left l.source l.query.prefix l.walk)
