use Rattle.node_daemon.proofs.Begun.{has_served}
use Rattle.node_daemon.proofs.beginning.serve_folder.Goals as goal

pub returns-in-Ok-start_and_run : goal.returns-in-Ok-start_and_run
returns-in-Ok-start_and_run g c = record {
  served = λ begins. has_served g.C.Clocks.gives g.C.Clocks.fails g.G.Datagrams.listens g.G.Datagrams.sends
      c.args.settings.now.node.server c.args.settings.now.renew_floor _ _ _ _ _ _ _ _ _ c.in-Ok.ensures.datagrams
      c.in-Ok.ensures.link c.in-Ok.ensures.transit c.in_ok-end.ensures.hears c.in_ok-end.ensures.meets
      c.wait_for_clock.ensures.transit c.in-Ok-start_and_run.ensures.ran;
}
