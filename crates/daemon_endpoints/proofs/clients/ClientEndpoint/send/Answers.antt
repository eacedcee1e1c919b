use Rattle.std.proofs.Common.{add-one, arith, refl, ◌∙◌}
use Rattle.daemon_endpoints.specs.Sending.{none}
use Rattle.daemon_endpoints.proofs.Left.{one_more, all_left}
use Rattle.daemon_endpoints.proofs.clients.ClientEndpoint.send.Goals as goal

pub loop-held-init : goal.loop-held-init
loop-held-init g c = record { transit = refl; left = none }

pub loop-held-preserved : goal.loop-held-preserved
loop-held-preserved g c = record {
  transit = c.send_one.ensures.transit ∙ c.loop-held.invariant.transit;
  left = rw (add-one c.loop-held.held-index)
      (one_more g.C.Clocks.gives g.C.Clocks.fails g.G.Datagrams.sends _ _ c.args.answers.now c.loop-held.held-index
      c.held-item.result c.loop-held-test.true c.held-item.is _ _ c.loop-held.invariant.left _
      c.loop-held.invariant.transit c.send_one.ensures.leaves);
}

pub returns-clause-leave : goal.returns-clause-leave
returns-clause-leave g c =
    all_left g.C.Clocks.gives g.C.Clocks.fails g.G.Datagrams.sends _ _ c.args.answers.now c.loop-held.held-index _
    (omega (arith, c.loop-held-test.false, c.loop-held.auto.held-index-end)) c.loop-held.invariant.left
