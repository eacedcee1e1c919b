use Rattle.std.specs.Prelude.{◌≡◌}
use Rattle.daemon_endpoints.proofs.partner.PartnerEndpoint.authenticate_pending.Given as goal

abbrev pub invariant-loop-leaving : goal.invariant-loop-leaving
invariant-loop-leaving g l = l.self-inside.standing ≡ l.initial.self-inside.standing
