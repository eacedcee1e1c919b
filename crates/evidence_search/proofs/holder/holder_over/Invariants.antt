use Rattle.std.proofs.Common.{length}
use Rattle.plain_search.specs.Collected.{IsRecent}
use Rattle.evidence_search.proofs.Holders.{AreAsked}
use Rattle.evidence_search.proofs.holder.holder_over.Given as goal

abbrev pub invariant-loop-at : goal.invariant-loop-at
invariant-loop-at g l = AreAsked (g.S.Lines.journals l.source) l.query
    (g.S.LineSource.left l.source l.query.prefix l.walk) l.last × IsRecent (g.S.Lines.journals l.source) l.recent

abbrev pub decreases-loop-at : goal.decreases-loop-at
decreases-loop-at g l = length (g.S.LineSource.left l.source l.query.prefix l.walk)
