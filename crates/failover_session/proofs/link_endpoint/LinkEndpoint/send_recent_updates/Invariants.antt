use Rattle.failover_session.specs.Sessions.{SendsLines}
use Rattle.failover_session.proofs.link_endpoint.LinkEndpoint.send_recent_updates.Given as goal

abbrev pub invariant-loop-index : goal.invariant-loop-index
invariant-loop-index g l = SendsLines (g.B.Pass.Receipts.receipts l.initial.pass)
    (g.B.Pass.Receipts.receipts l.pass) l.initial.duties.out.items l.duties.out.items
