use Rattle.std.specs.Prelude.{◌≡◌}
use Rattle.std.proofs.Common.{take}
use Rattle.daemon_endpoints.specs.Sending.{AllLeave}
use Rattle.daemon_endpoints.proofs.clients.ClientEndpoint.send.Given as goal

abbrev pub invariant-loop-held : goal.invariant-loop-held
invariant-loop-held g l = record {
  transit : l.self.transit ≡ l.initial.self.transit;
  left : AllLeave g.C.Clocks.gives g.C.Clocks.fails g.G.Datagrams.sends l.initial.self.transit
      l.initial.self.datagrams (take l.held-index l.answers) l.self.datagrams;
}
