use Rattle.std.proofs.Common.{ap}
use Rattle.failover_session.specs.Sessions.{met_at}
use Rattle.failover_session.proofs.Turns.{turn_on, whole_on, if_done}
use Rattle.failover_session.proofs.session.poll_session.Goals as goal

pub returns-in-Joined-clause-turn : goal.returns-in-Joined-clause-turn
returns-in-Joined-clause-turn g c =
    turn_on _ _ _ _ _ c.in-Joined.last (ap met_at c.in-Joined.is) _ _ _ _ _ _ c.send_all.ensures
    c.in_ok-handle_input.ensures.turn

pub returns-in-Joined-clause-whole : goal.returns-in-Joined-clause-whole
returns-in-Joined-clause-whole g c =
    if_done c.send_all.result
    (λ going. whole_on _ _ _ _ _ c.in-Joined.last (ap met_at c.in-Joined.is) _ _ _ _ _ _ c.send_all.ensures _
    (c.in_ok-handle_input.ensures.whole going))
