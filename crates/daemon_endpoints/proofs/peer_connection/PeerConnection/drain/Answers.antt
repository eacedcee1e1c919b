use Rattle.daemon_io.proofs.Given.{flushed_stays}
use Rattle.daemon_endpoints.proofs.Given.{only_heard}
use Rattle.daemon_endpoints.proofs.peer_connection.PeerConnection.drain.Goals as goal

pub returns : goal.returns
returns g c = only_heard _ _ _ (flushed_stays _ _ c.flush.ensures.given c.flush.ensures.passage) c.read-got.ensures.hears
