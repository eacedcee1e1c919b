use Rattle.node_daemon.proofs.Begun.{has_begun}
use Rattle.node_daemon.proofs.beginning.start_and_run.Goals as goal

pub returns-in-Ok : goal.returns-in-Ok
returns-in-Ok g c = record {
  ran = has_begun g.C.Clocks.gives g.C.Clocks.fails g.G.Datagrams.listens g.G.Datagrams.sends
      c.args.settings.now.node.server c.args.settings.now.renew_floor _ _ _ _ _ _ _ _ _ c.begin.ensures.datagrams
      c.begin.ensures.link c.begin.ensures.transit c.in_ok-started.ensures.begun c.in-Ok.ensures;
}
