use Rattle.std.specs.Prelude.{◌≡◌}
use Rattle.daemon_endpoints.proofs.partner.PartnerEndpoint.accept_connections.Given as goal

abbrev pub invariant-loop-place : goal.invariant-loop-place
invariant-loop-place g l = l.self-inside.standing ≡ l.initial.self-inside.standing
