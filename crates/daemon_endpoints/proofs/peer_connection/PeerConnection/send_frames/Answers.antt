use Rattle.daemon_endpoints.proofs.Given.{says_with}
use Rattle.daemon_endpoints.proofs.peer_connection.PeerConnection.send_frames.Goals as goal

pub returns-then-matches : goal.returns-then-matches
returns-then-matches g c =
    says_with _ _ _ _ c.write.ensures _ c.send_disconnect.ensures.0 c.send_disconnect.ensures.1 c.send_disconnect.ensures.2
