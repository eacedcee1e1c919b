use Rattle.std.proofs.Common.{arith}
use Rattle.prefix_range.proofs.Ends.{ends_within, is_last}
use Rattle.prefix_range.proofs.prefix.Prefix.last.Goals as goal

pub overflow_add-result : goal.overflow_add-result
overflow_add-result c = omega (arith, ends_within _ c.self.invariant, c.host_mask.ensures)

pub returns-clause-last : goal.returns-clause-last
returns-clause-last c = rw (← c.self.view_is) (is_last _ _ c.self.invariant (omega (arith, c.host_mask.ensures)))
