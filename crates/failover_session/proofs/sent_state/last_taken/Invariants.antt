use Rattle.std.proofs.Common.{◌≡◌, take}
use Rattle.failover_session.specs.Receipts.{last_taken}
use Rattle.failover_session.proofs.sent_state.last_taken.Given as goal

abbrev pub invariant-loop-index : goal.invariant-loop-index
invariant-loop-index l = last_taken (take l.index l.receipts) ≡ last_taken l.receipts
