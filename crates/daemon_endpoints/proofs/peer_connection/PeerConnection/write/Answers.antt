use Rattle.daemon_io.proofs.Given.{flushed_stays}
use Rattle.std.proofs.Common.{add-one, arith, refl}
use Rattle.daemon_endpoints.specs.Saying.{none}
use Rattle.daemon_endpoints.proofs.Given.{one_given, one_lost, all_given}
use Rattle.daemon_endpoints.proofs.peer_connection.PeerConnection.write.Goals as goal

pub loop-handed-init : goal.loop-handed-init
loop-handed-init g c = none

pub returns-in-Err : goal.returns-in-Err
returns-in-Err g c =
    one_lost c.args.frames.now c.loop-handed.handed-index c.handed-item.result c.loop-handed-test.true
    c.handed-item.is _ _ _ c.loop-handed.invariant Unit c.in-Err.field-0 _ refl c.in-Err.ensures.given

pub loop-handed-preserved : goal.loop-handed-preserved
loop-handed-preserved g c =
    rw (add-one c.loop-handed.handed-index)
    (one_given c.args.frames.now c.loop-handed.handed-index c.handed-item.result c.loop-handed-test.true
    c.handed-item.is _ _ _ c.loop-handed.invariant c.in-Ok.ensures.given)

pub returns-then-is_err : goal.returns-then-is_err
returns-then-is_err g c =
    all_given c.args.frames.now c.loop-handed.handed-index _ _ _ _
    (omega (arith, c.loop-handed-test.false, c.loop-handed.auto.handed-index-end)) c.loop-handed.invariant
    (flushed_stays _ _ c.flush.ensures.given c.flush.ensures.passage)

pub returns-else-is_err : goal.returns-else-is_err
returns-else-is_err g c =
    all_given c.args.frames.now c.loop-handed.handed-index _ _ _ _
    (omega (arith, c.loop-handed-test.false, c.loop-handed.auto.handed-index-end)) c.loop-handed.invariant
    (flushed_stays _ _ c.flush.ensures.given c.flush.ensures.passage)
