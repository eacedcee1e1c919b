use Rattle.lease_expiry.proofs.Ended.{nothing_ended, one_more}
use Rattle.lease_expiry.proofs.ending.end_each.Goals as goal

pub loop-lease-init : goal.loop-lease-init
loop-lease-init g c = nothing_ended _ _ _

pub loop-lease-preserved : goal.loop-lease-preserved
loop-lease-preserved g c =
    one_more _ _ _ _ _ c.end_next.result c.if-not-end_next.false c.loop-lease.invariant c.end_next.ensures
