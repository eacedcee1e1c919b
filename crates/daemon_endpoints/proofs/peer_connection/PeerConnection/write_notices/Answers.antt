use Rattle.daemon_io.proofs.Given.{flushed_stays}
use Rattle.daemon_endpoints.specs.Saying.{none, noticed, kept}
use Rattle.daemon_endpoints.proofs.Given.{notice_lost}
use Rattle.daemon_endpoints.proofs.peer_connection.PeerConnection.write_notices.Goals as goal

pub loop-notice-init : goal.loop-notice-init
loop-notice-init g c = none

pub returns-in-Err : goal.returns-in-Err
returns-in-Err g c =
    rw c.end.ensures
    (notice_lost Unit _ _ _ _ c.in-Err.field-0 c.loop-notice.invariant c.in-Err.ensures.given)

pub loop-notice-preserved : goal.loop-notice-preserved
loop-notice-preserved g c = noticed _ _ _ _ c.loop-notice.invariant c.in-Ok.ensures.given

pub returns-then-is_err : goal.returns-then-is_err
returns-then-is_err g c =
    rw c.end-then-is_err.ensures
    (kept _ _ _ c.loop-notice.invariant (flushed_stays _ _ c.flush.ensures.given c.flush.ensures.passage))

pub returns-else-is_err : goal.returns-else-is_err
returns-else-is_err g c =
    kept _ _ _ c.loop-notice.invariant (flushed_stays _ _ c.flush.ensures.given c.flush.ensures.passage)
