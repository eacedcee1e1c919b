use Rattle.failover_session.specs.Sessions.{SendsLines}
use Rattle.failover_session.proofs.link_endpoint.LinkEndpoint.send_each_update.Given as goal

abbrev pub invariant-loop-unit : goal.invariant-loop-unit
invariant-loop-unit g l = SendsLines (g.B.Pass.Receipts.receipts l.initial.pass)
    (g.B.Pass.Receipts.receipts l.pass) l.initial.duties.out.items l.duties.out.items
