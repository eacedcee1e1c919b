use Rattle.std.proofs.Common.{take}
use Rattle.failover_session.specs.Sessions.{Handles, IsGoing, met_at, messages_in}
use Rattle.failover_session.specs.Shortage.{SaysWhyShort}
use Rattle.failover_session.proofs.link_endpoint.LinkEndpoint.handle_frames.Given as goal

abbrev pub invariant-loop-frame : goal.invariant-loop-frame
invariant-loop-frame g l =
    Handles l.self.role (messages_in (take l.frame-index l.frames)) (met_at l.initial.stage) (met_at l.stage)
    (g.B.Pass.Receipts.receipts l.initial.pass) (g.B.Pass.Receipts.receipts l.pass)
    l.initial.duties.out.items l.duties.out.items
    × (IsGoing l.initial.stage → IsGoing l.stage)
    × (IsGoing l.initial.stage → SaysWhyShort l.self.policy (g.B.Pass.Receipts.receipts l.pass) l.stage)
