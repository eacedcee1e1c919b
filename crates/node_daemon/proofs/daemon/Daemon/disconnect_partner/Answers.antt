use Rattle.std.specs.Prelude.{[]}
use Rattle.std.proofs.Common.{refl, sym, subst, ◌∙◌}
use Rattle.daemon_endpoints.specs.Saying.{SaysOver}
use Rattle.daemon_endpoints.proofs.Given.{said_on}
use Rattle.node_daemon.proofs.daemon.Daemon.disconnect_partner.Goals as goal

pub loop-rest-init : goal.loop-rest-init
loop-rest-init g c = record { clients = refl; link = c.send_disconnect.ensures }

pub returns-in_err-now-clause-link : goal.returns-in_err-now-clause-link
returns-in_err-now-clause-link g c = c.loop-rest.invariant.link

pub returns-then-not-drain-clause-link : goal.returns-then-not-drain-clause-link
returns-then-not-drain-clause-link g c = said_on [] _ _ _ c.loop-rest.invariant.link c.drain.ensures

pub returns-in_err-rest-clause-link : goal.returns-in_err-rest-clause-link
returns-in_err-rest-clause-link g c =
    subst (λ link. SaysOver [] c.args.self.now.partner link) (sym c.rest.ensures.link)
    (said_on [] _ _ _ c.loop-rest.invariant.link c.drain.ensures)

pub loop-rest-preserved : goal.loop-rest-preserved
loop-rest-preserved g c = record {
  clients = c.rest.ensures.clients ∙ c.loop-rest.invariant.clients;
  link = subst (λ link. SaysOver [] c.args.self.now.partner link) (sym c.rest.ensures.link)
      (said_on [] _ _ _ c.loop-rest.invariant.link c.drain.ensures);
}

pub returns-clause-link : goal.returns-clause-link
returns-clause-link g c = c.loop-rest.invariant.link
