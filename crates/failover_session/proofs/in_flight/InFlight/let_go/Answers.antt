use Rattle.std.specs.Prelude.{not}
use Rattle.std.proofs.Common.{rules}
use Rattle.std.proofs.lemmas.Fn.{filter_same}
use Rattle.failover_session.specs.Waiting.{is_late}
use Rattle.failover_session.proofs.in_flight.InFlight.let_go.Goals as goal

pub returns-in-Some : goal.returns-in-Some
returns-in-Some c =
    rw (c.in-Some.is)
    (filter_same _ (λ s. not (is_late c.in-Some.now s)) _ (λ x b f' k. search rules) _ _ c.retain.ensures.filtered)
