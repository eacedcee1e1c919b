use Rattle.std.specs.Prelude.{◌≡◌}
use Rattle.std.proofs.Common.{rules, ◌∙◌}
use Rattle.node_daemon.proofs.Turned.{none_heard}
use Rattle.node_daemon.proofs.Waiting.{receive_on, nothing_met, meets_on}
use Rattle.node_daemon.proofs.daemon.Daemon.await_clock.Goals as goal

pub loop-turn-init : goal.loop-turn-init
loop-turn-init g c =
    let same : c.tell_wait.new.self.clients.datagrams ≡ c.args.self.now.clients.datagrams = search rules in
    let kept : c.tell_wait.new.self.clients.transit ≡ c.args.self.now.clients.transit = search rules in
    record {
      hears = none_heard g.G.Datagrams.listens c.args.self.now.clients.datagrams c.tell_wait.new.self.clients.datagrams same;
      meets = nothing_met c.args.self.now.partner c.tell_wait.new.self.partner c.tell_wait.ensures.link;
      transit = kept;
    }

pub loop-turn-preserved : goal.loop-turn-preserved
loop-turn-preserved g c = record {
  hears = receive_on g.G.Datagrams.listens _ _ _ c.loop-turn.invariant.hears c.in-Ok.ensures.hears;
  meets = meets_on _ _ _ c.loop-turn.invariant.meets c.in-Ok.ensures.meets;
  transit = c.wait_turn.ensures.transit ∙ c.loop-turn.invariant.transit;
}
