use Rattle.std.proofs.Common.{add-one, refl}
use Rattle.failover_session.proofs.Front.{frame_heard, frame_begun, goes_on, going_says}
use Rattle.failover_session.proofs.Hearing.{hears_nothing}
use Rattle.failover_session.proofs.link_endpoint.LinkEndpoint.handle_frames.Goals as goal

pub returns-in_err-handle_frame-clause-front : goal.returns-in_err-handle_frame-clause-front
returns-in_err-handle_frame-clause-front g c =
    frame_begun c.args.frames.now c.loop-frame.frame-index c.frame-item.result c.loop-frame-test.true c.frame-item.is
    _ _ _ _ _ _ _ _ _ _ c.loop-frame.invariant.0 c.in_err-handle_frame.ensures.front

pub returns-then-has_ended-clause-front : goal.returns-then-has_ended-clause-front
returns-then-has_ended-clause-front g c =
    frame_begun c.args.frames.now c.loop-frame.frame-index c.frame-item.result c.loop-frame-test.true c.frame-item.is
    _ _ _ _ _ _ _ _ _ _ c.loop-frame.invariant.0 c.in_ok-handle_frame.ensures.front

pub returns-in_err-handle_frame-clause-why : goal.returns-in_err-handle_frame-clause-why
returns-in_err-handle_frame-clause-why g c = λ going. c.in_err-handle_frame.ensures.why (c.loop-frame.invariant.1 going)

pub returns-then-has_ended-clause-why : goal.returns-then-has_ended-clause-why
returns-then-has_ended-clause-why g c = λ going. c.in_ok-handle_frame.ensures.why (c.loop-frame.invariant.1 going)

pub returns-clause-why : goal.returns-clause-why
returns-clause-why g c = c.loop-frame.invariant.2

pub loop-frame-init : goal.loop-frame-init
loop-frame-init g c = (
  hears_nothing _ _ _ _ _ _ refl refl,
  λ going. going,
  λ going. going_says c.args.self.now.policy (g.B.Pass.Receipts.receipts c.args.pass.now) c.args.stage.now going,
)

pub loop-frame-preserved : goal.loop-frame-preserved
loop-frame-preserved g c = (
  rw (add-one c.loop-frame.frame-index)
      (frame_heard c.args.frames.now c.loop-frame.frame-index c.frame-item.result c.loop-frame-test.true c.frame-item.is
      _ _ _ _ _ _ _ _ _ _ c.loop-frame.invariant.0
      (c.in_ok-handle_frame.ensures.whole (goes_on _ (λ ends. let t = c.if-has_ended.ensures.1 ends in absurd cc)))),
  λ going. goes_on _ (λ ends. let t = c.if-has_ended.ensures.1 ends in absurd cc),
  λ going. c.in_ok-handle_frame.ensures.why (c.loop-frame.invariant.1 going),
)
