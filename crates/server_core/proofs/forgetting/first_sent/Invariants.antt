use Rattle.std.proofs.Common.{◌≡◌, drop}
use Rattle.server_core.specs.Forgetting.{first_sent}
use Rattle.server_core.proofs.forgetting.first_sent.Given as goal

abbrev pub invariant-loop-receipt : goal.invariant-loop-receipt
invariant-loop-receipt l = first_sent (drop l.receipt-index l.receipts) ≡ first_sent l.receipts
