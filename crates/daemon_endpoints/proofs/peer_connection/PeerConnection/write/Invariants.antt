use Rattle.std.proofs.Common.{take}
use Rattle.daemon_endpoints.specs.Saying.{AreGiven, frames_of}
use Rattle.daemon_endpoints.proofs.peer_connection.PeerConnection.write.Given as goal

abbrev pub invariant-loop-handed : goal.invariant-loop-handed
invariant-loop-handed g l =
    AreGiven l.initial.self.connection.sent (frames_of (take l.handed-index l.frames)) l.self.connection.sent
