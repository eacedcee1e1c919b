use Rattle.std.proofs.Common.{◌∙◌, sym}
use Rattle.server_settings.proofs.Found.{pools_on, pools_off, pools_end}
use Rattle.server_settings.proofs.document.pools_of.Goals as goal

pub returns : goal.returns
returns c = sym c.loop-value.invariant ∙ pools_end _ _ _ c.loop-value-test.false

pub loop-value-preserved : goal.loop-value-preserved
loop-value-preserved c =
    let on = pools_on c.loop-value.pools.items c.loop-value.value-index _ c.value-item.result c.in-Some.pool
    c.loop-value-test.true c.value-item.is (rw c.in-Some.is at c.pool_of.ensures) in
    rw c.in_ok-extend_from_slice.ensures.items (sym on ∙ c.loop-value.invariant)

pub returns-in_default : goal.returns-in_default
returns-in_default c = sym c.loop-value.invariant
    ∙ pools_off c.loop-value.pools.items _ _ _ c.loop-value-test.true c.value-item.is
    (rw c.in_default.is at c.pool_of.ensures)
