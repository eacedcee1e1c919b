use Rattle.std.proofs.Common.{add-one}
use Rattle.failover_session.proofs.Again.{again_some, again_none}
use Rattle.failover_session.proofs.sending.sent_above.Goals.{in-Some+in_ok-extend_from_slice, in_default}
use Rattle.failover_session.proofs.sending.sent_above.Goals as goal

pub loop-receipt-preserved : goal.loop-receipt-preserved
loop-receipt-preserved c =
    rw (add-one c.loop-receipt.receipt-index)
    (elim c.match-above.branch [
      | in-Some+in_ok-extend_from_slice w ↦
          rw (w.out-is, w.in_ok-extend_from_slice.ensures.items)
          (again_some c.args.last c.args.receipts.now c.loop-receipt.receipt-index c.receipt-item.result
          c.loop-receipt-test.true c.receipt-item.is c.loop-receipt.out.items c.loop-receipt.invariant w.in-Some.handed
          w.in-Some.ensures)
      | in_default w ↦
          rw (w.out-is)
          (again_none c.args.last c.args.receipts.now c.loop-receipt.receipt-index c.receipt-item.result
          c.loop-receipt-test.true c.receipt-item.is c.loop-receipt.out.items c.loop-receipt.invariant
          w.in_default.ensures)
    ])
