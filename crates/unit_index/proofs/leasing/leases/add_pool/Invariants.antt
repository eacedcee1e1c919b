use Rattle.book_rules.specs.State.{state}
use Rattle.unit_index.proofs.LeaseSteps.{IsNotedTo}
use Rattle.unit_index.proofs.leasing.leases.add_pool.Given as goal

abbrev pub invariant-loop-index : goal.invariant-loop-index
invariant-loop-index l = IsNotedTo (state l.table) l.pool l.initial.leases l.leases l.index
