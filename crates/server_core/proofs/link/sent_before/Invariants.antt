use Rattle.std.proofs.Common.{◌≡◌, length}
use Rattle.server_core.specs.Saying.{sent_before}
use Rattle.server_core.proofs.link.sent_before.Given as goal

abbrev pub invariant-loop-rest : goal.invariant-loop-rest
invariant-loop-rest l = sent_before l.rest ≡ sent_before l.receipts

abbrev pub decreases-loop-rest : goal.decreases-loop-rest
decreases-loop-rest l = length l.rest
