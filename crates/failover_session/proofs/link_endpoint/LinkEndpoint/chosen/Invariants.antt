use Rattle.std.proofs.Common.{◌≡◌}
use Rattle.failover_session.proofs.link_endpoint.LinkEndpoint.chosen.Given as goal

abbrev pub invariant-loop-pool : goal.invariant-loop-pool
invariant-loop-pool g l = g.B.Pass.Receipts.receipts l.pass ≡ g.B.Pass.Receipts.receipts l.initial.pass
