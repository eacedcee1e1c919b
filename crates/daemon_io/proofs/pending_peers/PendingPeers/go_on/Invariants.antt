use Rattle.std.specs.Prelude.{IfSome}
use Rattle.daemon_io.specs.ConnectionWrites.{IsUnused}
use Rattle.daemon_io.proofs.pending_peers.PendingPeers.go_on.Given as goal

abbrev pub invariant-loop-seat : goal.invariant-loop-seat
invariant-loop-seat g l = IfSome l.entered (λ c. IsUnused c.sent.passage)
