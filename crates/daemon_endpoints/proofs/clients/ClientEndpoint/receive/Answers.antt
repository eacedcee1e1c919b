use Rattle.std.proofs.Common.{rules, refl, sym, ◌∙◌, subst}
use Rattle.daemon_endpoints.specs.Receiving.{MayReceive, nothing, more, HasHeard}
use Rattle.daemon_endpoints.proofs.Files.{same_files, heard_nothing, heard_by, heard_on}
use Rattle.daemon_endpoints.proofs.clients.ClientEndpoint.receive.Goals as goal

pub loop-count-init : goal.loop-count-init
loop-count-init g c = record {
  hears = nothing;
  transit = refl;
  heard = heard_nothing g.C.Clocks.gives _ _ (same_files _ _ refl);
}

pub loop-count-preserved : goal.loop-count-preserved
loop-count-preserved g c =
    let step : HasHeard g.C.Clocks.gives c.loop-count.running c.hear-outcome.new.running =
    heard_by g.C.Clocks.gives _ _ _ c.in_ok-now.ensures c.hear-outcome.ensures in
    record {
      hears = subst (λ way. MayReceive g.G.Datagrams.listens c.args.self.now.datagrams way) (sym c.count.ensures.0)
          (more _ _ c.loop-count.invariant.hears c.receive.ensures.listens);
      transit = c.count.ensures.1 ∙ c.loop-count.invariant.transit;
      heard = heard_on g.C.Clocks.gives _ _ _ c.loop-count.invariant.heard step;
    }

pub returns-in-Ok-None-clause-hears : goal.returns-in-Ok-None-clause-hears
returns-in-Ok-None-clause-hears g c = more _ _ c.loop-count.invariant.hears c.receive.ensures.listens

pub returns-in-Err-clause-hears : goal.returns-in-Err-clause-hears
returns-in-Err-clause-hears g c = more _ _ c.loop-count.invariant.hears c.receive.ensures.listens

pub returns-in_err-now-clause-hears : goal.returns-in_err-now-clause-hears
returns-in_err-now-clause-hears g c = more _ _ c.loop-count.invariant.hears c.receive.ensures.listens
