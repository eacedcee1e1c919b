use Rattle.std.proofs.Common.{length}
use Rattle.plain_search.specs.Collected.{IsRecent}
use Rattle.plain_search.proofs.Reasons.{AreNamed}
use Rattle.plain_search.proofs.foreign.foreign_entries.Given as goal

abbrev pub invariant-loop-grant : goal.invariant-loop-grant
invariant-loop-grant g l = AreNamed (g.S.Lines.journals l.source) l.query
    (g.S.LineSource.left l.source l.query.prefix l.walk) l.entries × IsRecent (g.S.Lines.journals l.source) l.recent

abbrev pub decreases-loop-grant : goal.decreases-loop-grant
decreases-loop-grant g l = length (g.S.LineSource.left l.source l.query.prefix l.walk)
