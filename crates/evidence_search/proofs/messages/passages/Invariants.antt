use Rattle.evidence_search.proofs.Passing.{ArePassed}
use Rattle.evidence_search.proofs.messages.passages.Given as goal

abbrev pub invariant-loop-take : goal.invariant-loop-take
invariant-loop-take g l = ArePassed (g.L.Lines.journals l.lines) l.side l.last l.take l.passages.items
