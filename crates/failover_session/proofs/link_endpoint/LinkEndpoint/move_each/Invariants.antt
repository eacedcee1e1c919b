use Rattle.failover_session.specs.Sessions.{SendsLines}
use Rattle.failover_session.proofs.link_endpoint.LinkEndpoint.move_each.Given as goal

abbrev pub invariant-loop-prefix : goal.invariant-loop-prefix
invariant-loop-prefix g l = SendsLines (g.B.Pass.Receipts.receipts l.initial.pass)
    (g.B.Pass.Receipts.receipts l.pass) l.initial.duties.out.items l.duties.out.items
