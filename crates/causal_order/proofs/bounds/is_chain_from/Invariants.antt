use Rattle.std.proofs.Common.{◌∷◌}
use Rattle.causal_order.proofs.Walking.{IsLeft}
use Rattle.causal_order.proofs.bounds.is_chain_from.Given as goal

abbrev pub invariant-loop-next : goal.invariant-loop-next
invariant-loop-next g l = IsLeft (g.L.Lines.journals l.lines) (l.fn.first ∷ l.rest) l.last l.rest l.next-index
