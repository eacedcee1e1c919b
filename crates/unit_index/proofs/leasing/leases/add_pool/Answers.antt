use Rattle.std.proofs.Common.{arith}
use Rattle.unit_index.proofs.LeaseSteps.{noted_on, noted_all}
use Rattle.unit_index.proofs.leasing.leases.add_pool.Goals as goal

pub loop-index-preserved : goal.loop-index-preserved
loop-index-preserved c = noted_on _ _ _ c.loop-index.leases _ c.loop-index.index c.unit.result c.held_by-held.result
    c.requires.pool c.unit.ensures c.held_by-held.ensures.sound c.held_by-held.ensures.exact
    c.expect.ensures.more c.expect.ensures.only c.in_ok-expect.ensures.there c.loop-index.invariant

pub returns-clause-all : goal.returns-clause-all
returns-clause-all c = noted_all _ _ _ _ c.loop-index.index c.requires.pool
    (omega (arith, c.loop-index-test.false, c.count-index-end.ensures)) c.loop-index.invariant
