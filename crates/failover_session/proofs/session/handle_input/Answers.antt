use Rattle.failover_session.proofs.Turns.{turn_heard, octets_are}
use Rattle.failover_session.proofs.session.handle_input.Goals as goal

pub returns-in_err-handle_frames-in-Octets-clause-turn : goal.returns-in_err-handle_frames-in-Octets-clause-turn
returns-in_err-handle_frames-in-Octets-clause-turn g c =
    turn_heard _ c.args.came.now c.args.feed.now c.feed.new.self c.deref.result.now _ _ _ _ _ _
    (octets_are c.args.came.now c.in-Octets.octets c.args.feed.now c.feed.new.self c.deref.result.now c.in-Octets.is
    (rw (c.deref.ensures.value) c.in-Ok.ensures.split)) c.handle_frames.ensures.front

pub returns-after-told_all-clause-turn : goal.returns-after-told_all-clause-turn
returns-after-told_all-clause-turn g c =
    turn_heard _ c.args.came.now c.args.feed.now c.feed.new.self c.deref.result.now _ _ _ _ _ _
    (octets_are c.args.came.now c.in-Octets.octets c.args.feed.now c.feed.new.self c.deref.result.now c.in-Octets.is
    (rw (c.deref.ensures.value) c.in-Ok.ensures.split)) c.handle_frames.ensures.front

pub returns-in-Closed-clause-why : goal.returns-in-Closed-clause-why
returns-in-Closed-clause-why g c = λ going. c.ended.ensures.why c.args.end.now.policy (g.B.Pass.Receipts.receipts c.args.pass.now) going
