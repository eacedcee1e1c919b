use Rattle.std.proofs.Common.{◌≡◌}
use Rattle.failover_session.proofs.link_endpoint.LinkEndpoint.add_units.Given as goal

abbrev pub invariant-loop-index : goal.invariant-loop-index
invariant-loop-index g l = g.B.Pass.Receipts.receipts l.pass ≡ g.B.Pass.Receipts.receipts l.initial.pass
