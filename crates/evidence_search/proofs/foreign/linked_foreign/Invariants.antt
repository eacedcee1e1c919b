use Rattle.std.proofs.Common.{length}
use Rattle.plain_search.specs.Collected.{IsRecent}
use Rattle.evidence_search.proofs.foreign.linked_foreign.Given as goal

abbrev pub invariant-loop-grant : goal.invariant-loop-grant
invariant-loop-grant g l = IsRecent (g.S.Lines.journals l.source) l.recent

abbrev pub decreases-loop-grant : goal.decreases-loop-grant
decreases-loop-grant g l = length (g.S.LineSource.left l.source l.query.prefix l.walk)
