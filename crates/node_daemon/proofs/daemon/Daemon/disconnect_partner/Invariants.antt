use Rattle.std.specs.Prelude.{◌≡◌, []}
use Rattle.daemon_endpoints.specs.Saying.{SaysOver}
use Rattle.node_daemon.proofs.daemon.Daemon.disconnect_partner.Given as goal

abbrev pub invariant-loop-rest : goal.invariant-loop-rest
invariant-loop-rest g l = record {
  clients : l.self.clients ≡ l.initial.self.clients;
  link : SaysOver [] l.fn.self.partner l.self.partner;
}
