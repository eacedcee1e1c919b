use Rattle.std.specs.Prelude.{◌≡◌}
use Rattle.daemon_endpoints.specs.Receiving.{MayReceive}
use Rattle.node_daemon.specs.Beginning.{Meets}
use Rattle.node_daemon.proofs.daemon.Daemon.await_clock.Given as goal

abbrev pub invariant-loop-turn : goal.invariant-loop-turn
invariant-loop-turn g l = record {
  hears : MayReceive g.G.Datagrams.listens l.fn.self.clients.datagrams l.self.clients.datagrams;
  meets : Meets l.fn.self.partner l.self.partner;
  transit : l.self.clients.transit ≡ l.fn.self.clients.transit;
}
