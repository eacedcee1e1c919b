use Rattle.lease_expiry.specs.Expiring.{AreEnded}
use Rattle.lease_expiry.proofs.ending.end_each.Given as goal

abbrev pub invariant-loop-lease : goal.invariant-loop-lease
invariant-loop-lease g l = AreEnded l.by l.now l.fn.running l.running
