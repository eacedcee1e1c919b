use Rattle.failover_session.proofs.Turns.{turn_goes}
use Rattle.failover_session.proofs.session.FailoverSession.poll.Goals as goal

pub returns-clause-next : goal.returns-clause-next
returns-clause-next g c = turn_goes _ _ _ _ _ _ _ _ _ c.poll_session.ensures.turn
