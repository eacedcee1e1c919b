use Rattle.std.specs.Prelude.{◌≡◌}
use Rattle.std.proofs.Common.{rules}
use Rattle.node_daemon.proofs.Waiting.{waits}
use Rattle.node_daemon.proofs.daemon.Daemon.wait_turn.Goals.{in-Begins, in_default}
use Rattle.node_daemon.proofs.daemon.Daemon.wait_turn.Goals as goal

pub returns-clause-meets : goal.returns-clause-meets
returns-clause-meets g c =
    let last : c.match-next.self.partner ≡ c.say_notices.new.self =
    elim c.match-next.branch [
      | in-Begins w ↦ search rules
      | in_default w ↦ search rules
    ] in
    waits _ _ _ _ _ _ c.wait_for_input.ensures.link c.meet.ensures.stands c.hear_request-is_accepted.ensures.link
    c.say_notices.ensures.said last
