use Rattle.std.specs.Prelude.{◌≡◌}
use Rattle.daemon_endpoints.specs.Receiving.{MayReceive, HasHeard}
use Rattle.daemon_endpoints.proofs.clients.ClientEndpoint.receive.Given as goal

abbrev pub invariant-loop-count : goal.invariant-loop-count
invariant-loop-count g l = record {
  hears : MayReceive g.G.Datagrams.listens l.initial.self.datagrams l.self.datagrams;
  transit : l.self.transit ≡ l.initial.self.transit;
  heard : HasHeard g.C.Clocks.gives l.initial.running l.running;
}
