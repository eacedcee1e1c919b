use Rattle.book_rules.specs.State.{state}
use Rattle.unit_index.proofs.LeaseSteps.{AreLeasesTo}
use Rattle.unit_index.proofs.leasing.leases.leases_of.Given as goal

abbrev pub invariant-loop-pool : goal.invariant-loop-pool
invariant-loop-pool l = AreLeasesTo (state l.table) l.pool-items l.pool-index l.leases
