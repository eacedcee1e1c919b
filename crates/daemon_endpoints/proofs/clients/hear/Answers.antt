use Rattle.std.specs.Prelude.{◌≡◌}
use Rattle.std.proofs.Common.{refl}
use Rattle.server_clocks.specs.declared.clocks.Moment.{Moment}
use Rattle.daemon_endpoints.proofs.Heard.{heard_one}
use Rattle.daemon_endpoints.proofs.clients.hear.Goals as goal

pub returns : goal.returns
returns g c = heard_one (λ (m : Moment). m ≡ c.args.heard) (record { peer = c.args.peer; heard = c.args.heard })
    (g.A.Admission.lets c.args.admission.now) (g.A.Admission.drops c.args.admission.now) c.args.manner.now c.args.datagram.now _ _ c.handle_datagram.result
    c.handle_datagram.ensures.heard c.handle_datagram.ensures.grows c.handle_datagram.ensures.rest refl
