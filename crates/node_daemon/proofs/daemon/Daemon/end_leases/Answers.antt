use Rattle.std.specs.Prelude.{◌≡◌}
use Rattle.std.proofs.Common.{rules, subst}
use Rattle.node_daemon.specs.Ending.{EndsLeases}
use Rattle.node_daemon.proofs.Ended.{ends_same, ends_by_view}
use Rattle.node_daemon.proofs.daemon.Daemon.end_leases.Goals as goal

pub returns-clause-files : goal.returns-clause-files
returns-clause-files g c = ends_same _ _ _ _ c.end_leases.ensures

pub returns-clause-ended : goal.returns-clause-ended
returns-clause-ended g c =
    let beat : c.from-two_heartbeats.result ≡ c.args.self.now.upkeep.heartbeat = search rules in
    subst (λ b. EndsLeases c.args.self.now.is_alone c.args.self.now.contact b c.args.self.now.settings.now c.args.now.now
    c.args.running.now c.end_leases.new.running) beat
    (ends_by_view _ _ _ _ _ _ _ _ c.is_heard_within-is_heard.ensures c.renewal_view-view.ensures c.end_leases.ensures)
