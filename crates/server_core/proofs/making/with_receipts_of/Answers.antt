use Rattle.std.proofs.Common.{add-one}
use Rattle.server_core.proofs.LineReceipts.{one_more}
use Rattle.server_core.proofs.making.with_receipts_of.Goals as goal

pub loop-line-preserved : goal.loop-line-preserved
loop-line-preserved c =
    rw (add-one c.loop-line.line-index, c.in_ok-extend_from_slice.ensures.items)
    (one_more _ c.journal-line-items.result.now c.loop-line.line-index _ c.loop-line.receipts.items
    c.loop-line.invariant c.line-item.result c.loop-line-test.true c.line-item.is _ c.reply_to-reply.result
    c.in_ok-enter.ensures.entered c.reply_to-reply.ensures)
