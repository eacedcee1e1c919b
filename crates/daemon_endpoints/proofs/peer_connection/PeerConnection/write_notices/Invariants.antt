use Rattle.std.specs.Prelude.{[]}
use Rattle.daemon_endpoints.specs.Saying.{AreGiven}
use Rattle.daemon_endpoints.proofs.peer_connection.PeerConnection.write_notices.Given as goal

abbrev pub invariant-loop-notice : goal.invariant-loop-notice
invariant-loop-notice g l = AreGiven l.initial.self.connection.sent [] l.self.connection.sent
