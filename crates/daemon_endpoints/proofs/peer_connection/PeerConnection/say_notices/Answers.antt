use Rattle.daemon_endpoints.specs.Saying.{none}
use Rattle.daemon_endpoints.proofs.peer_connection.PeerConnection.say_notices.Goals as goal

pub returns-in_default : goal.returns-in_default
returns-in_default g c = none

pub returns-in-Err : goal.returns-in-Err
returns-in-Err g c = rw c.end.ensures none
