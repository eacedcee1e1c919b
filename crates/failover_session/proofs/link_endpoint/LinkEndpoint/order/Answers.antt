use Rattle.std.proofs.Common.{rules}
use Rattle.failover_session.proofs.Saying.{one_said}
use Rattle.failover_session.proofs.link_endpoint.LinkEndpoint.order.Goals as goal

pub returns-in-Ok : goal.returns-in-Ok
returns-in-Ok g c =
    one_said _ _ _ _ c.in-Ok.receipt c.args.order.now c.in-Ok.ensures.added c.in-Ok.ensures.named c.requires.other (search rules)
