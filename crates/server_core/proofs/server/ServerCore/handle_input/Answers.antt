use Rattle.std.proofs.Common.{ap, subst}
use Rattle.server_core.specs.Saying.{IsTalkBacked}
use Rattle.server_core.proofs.Owed.{same_grows, all_owed}
use Rattle.server_core.proofs.Said.{heard_backed}
use Rattle.server_core.proofs.server.ServerCore.handle_input.Goals as goal

pub returns-in-None-clause-grows : goal.returns-in-None-clause-grows
returns-in-None-clause-grows g c = same_grows _ _ (ap (λ s. s.volume) c.self.view_is)

pub invariant_of-self : goal.invariant_of-self
invariant_of-self g c =
    let grown = c.poll.ensures.grows in
    record {
      names = c.self.invariant.names;
      owed = all_owed _ _ _ grown.0 _ _ grown.1.0 c.self.invariant.owed;
      said = heard_backed _ _ _ _ _ _ _ _ c.poll.ensures.turn.2.3
          (subst (IsTalkBacked _) c.in-Some.is c.self.invariant.said);
    }
