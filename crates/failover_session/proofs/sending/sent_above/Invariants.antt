use Rattle.std.proofs.Common.{◌≡◌, take}
use Rattle.failover_session.specs.OutboundFrames.{meanings_of, sends_above}
use Rattle.failover_session.proofs.sending.sent_above.Given as goal

abbrev pub invariant-loop-receipt : goal.invariant-loop-receipt
invariant-loop-receipt l = meanings_of l.out.items ≡ sends_above l.last (take l.receipt-index l.receipts)
