use Rattle.std.proofs.Common.{◌≡◌, take}
use Rattle.failover_session.specs.Receipts.{last_sent}
use Rattle.failover_session.proofs.sent_state.last_sent.Given as goal

abbrev pub invariant-loop-index : goal.invariant-loop-index
invariant-loop-index l = last_sent (take l.index l.receipts) ≡ last_sent l.receipts
