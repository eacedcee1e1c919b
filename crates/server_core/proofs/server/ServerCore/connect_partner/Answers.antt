use Rattle.std.proofs.Common.{sym, subst}
use Rattle.server_core.specs.Served.{receipts_in}
use Rattle.server_core.specs.Saying.{AreBacked}
use Rattle.server_core.proofs.Said.{said_as, opening_backed}
use Rattle.server_core.proofs.server.ServerCore.connect_partner.Goals as goal

pub invariant_of-self : goal.invariant_of-self
invariant_of-self g c =
    let receipts = receipts_in c.self.inside.volume.served in
    record {
      names = c.self.invariant.names;
      owed = c.self.invariant.owed;
      said = said_as receipts c.new-talk.result.handed c.greet.new.talk.handed _ c.in-Ok.ensures.said
          (subst (λ t. AreBacked receipts t.handed) (sym c.new-talk.ensures) tt)
          (opening_backed c.args.settings.now.role receipts);
    }
