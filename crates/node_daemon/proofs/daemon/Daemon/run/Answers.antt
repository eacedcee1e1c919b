use Rattle.node_daemon.proofs.Lasting.{has_lasted}
use Rattle.node_daemon.proofs.daemon.Daemon.run.Goals as goal

pub returns-clause-lasts : goal.returns-clause-lasts
returns-clause-lasts g c role earlier files j is =
    has_lasted c.commit_keeps_volumes.ensures c.roll_keeps_volumes.ensures g.C.Clocks.gives
    g.C.Clocks.fails g.G.Datagrams.listens
    g.G.Datagrams.sends _ _ _ role earlier files j _ c.run_loop.ensures.turned is
