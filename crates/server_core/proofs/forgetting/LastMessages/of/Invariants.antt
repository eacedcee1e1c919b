use Rattle.std.proofs.Common.{◌≡◌, drop}
use Rattle.failover_session.specs.Receipts.{taken_after, last_taken}
use Rattle.server_core.specs.Forgetting.{sent_after, last_sent, applied_after, last_applied}
use Rattle.server_core.proofs.forgetting.LastMessages.of.Given as goal

abbrev pub invariant-loop-receipt : goal.invariant-loop-receipt
invariant-loop-receipt l =
    (sent_after l.last.sent (drop l.receipt-index l.receipts) ≡ last_sent l.receipts)
    × (taken_after l.last.taken (drop l.receipt-index l.receipts) ≡ last_taken l.receipts)
    × (applied_after l.last.applied (drop l.receipt-index l.receipts) ≡ last_applied l.receipts)
