use Rattle.daemon_io.proofs.Given.{flushed_stays}
use Rattle.daemon_endpoints.proofs.Given.{last_word_given}
use Rattle.daemon_endpoints.proofs.peer_connection.PeerConnection.send_disconnect.Goals as goal

pub returns : goal.returns
returns g c = last_word_given _ _ _ c.write_frame.result c.write_frame.ensures.given (flushed_stays _ _ c.flush.ensures.given c.flush.ensures.passage)
