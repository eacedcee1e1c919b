use Rattle.std.specs.Prelude.{◌≡◌}
use Rattle.node_daemon.specs.Turning.{Turns, ways}
use Rattle.node_daemon.proofs.daemon.Daemon.run_loop.Given as goal

abbrev pub invariant-loop-turn : goal.invariant-loop-turn
invariant-loop-turn g l = record {
  transit : l.self.clients.transit ≡ l.initial.self.clients.transit;
  turns : Turns g.C.Clocks.gives g.C.Clocks.fails g.G.Datagrams.listens g.G.Datagrams.sends l.initial.self.clients.transit
      (ways l.initial.self.clients.datagrams l.initial.self.partner) l.initial.server
      (ways l.self.clients.datagrams l.self.partner) l.server;
}
