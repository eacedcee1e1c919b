use Rattle.std.proofs.Common.{refl}
use Rattle.daemon_endpoints.specs.Receiving.{nothing, more}
use Rattle.daemon_endpoints.proofs.clients.ClientEndpoint.discard.Goals as goal

pub loop-count-init : goal.loop-count-init
loop-count-init g c = record { hears = nothing; transit = refl }

pub loop-count-preserved : goal.loop-count-preserved
loop-count-preserved g c = record {
  hears = more _ _ c.loop-count.invariant.hears c.receive.ensures.listens;
  transit = c.loop-count.invariant.transit;
}

pub returns-in-Ok-None-clause-hears : goal.returns-in-Ok-None-clause-hears
returns-in-Ok-None-clause-hears g c = more _ _ c.loop-count.invariant.hears c.receive.ensures.listens

pub returns-in-Err-clause-hears : goal.returns-in-Err-clause-hears
returns-in-Err-clause-hears g c = more _ _ c.loop-count.invariant.hears c.receive.ensures.listens
