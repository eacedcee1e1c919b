use Rattle.std.specs.Prelude.{◌≡◌}
use Rattle.std.proofs.Common.{rules}
use Rattle.node_daemon.proofs.Turned.{none_heard, nobody_came, is_turn}
use Rattle.node_daemon.proofs.daemon.Daemon.run_turn.Goals as goal

pub returns-in-Err-clause-nothing : goal.returns-in-Err-clause-nothing
returns-in-Err-clause-nothing g c =
    let same : c.wait_for_input.new.self.clients.datagrams ≡ c.args.self.now.clients.datagrams = search rules in
    none_heard g.G.Datagrams.listens _ _ same

pub returns-in-Err-clause-link : goal.returns-in-Err-clause-link
returns-in-Err-clause-link g c =
    let same : c.wait_for_input.new.self.partner ≡ c.args.self.now.partner = search rules in
    nobody_came _ _ same

pub returns-in-Ok-commit-clause-turn : goal.returns-in-Ok-commit-clause-turn
returns-in-Ok-commit-clause-turn g c =
    let same_way : c.wait_for_input.new.self.clients.datagrams ≡ c.args.self.now.clients.datagrams = search rules in
    let same_told : c.roll_if_due.new.self.clients.datagrams ≡ c.handle_all.new.self.clients.datagrams = search rules in
    let same_transit : c.roll_if_due.new.self.clients.transit ≡ c.args.self.now.clients.transit = search rules in
    is_turn g.C.Clocks.gives g.C.Clocks.fails g.G.Datagrams.listens g.G.Datagrams.sends _ _ _ _ _ _ _ _ _ _ _ _ _ _ same_way c.wait_for_input.ensures.link
    c.handle_all.ensures.hears c.handle_all.ensures.stands c.handle_all.ensures.heard c.in-Ok-roll_if_due.ensures.rolls same_told
    c.roll_if_due.ensures.link _ same_transit c.in-Ok-commit.ensures.tells
