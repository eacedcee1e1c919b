use Rattle.std.specs.Prelude.{◌≡◌}
use Rattle.std.proofs.Common.{rules}
use Rattle.node_daemon.proofs.Turned.{none_heard}
use Rattle.node_daemon.proofs.daemon.Daemon.handle_all.Goals as goal

pub returns-in_err-check_volume-clause-hears : goal.returns-in_err-check_volume-clause-hears
returns-in_err-check_volume-clause-hears g c =
    let same : c.check_volume.new.self.clients.datagrams ≡ c.args.self.now.clients.datagrams = search rules in
    none_heard g.G.Datagrams.listens _ _ same
