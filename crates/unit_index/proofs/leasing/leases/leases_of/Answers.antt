use Rattle.std.proofs.Common.{arith}
use Rattle.unit_index.proofs.LeaseSteps.{leases_on}
use Rattle.unit_index.proofs.leasing.leases.leases_of.Goals as goal

pub loop-pool-preserved : goal.loop-pool-preserved
loop-pool-preserved c = leases_on _ _ c.loop-pool.pool-index c.pool-item.result c.loop-pool.leases _
    (omega (arith, c.loop-pool-test.true)) c.pool-item.is c.in_ok-add_pool.ensures.sound c.in_ok-add_pool.ensures.more
    c.in_ok-add_pool.ensures.all c.loop-pool.invariant
