use Rattle.server_core.proofs.Owed.{all_owed}
use Rattle.server_core.proofs.Said.{talk_later}
use Rattle.server_core.proofs.server.ServerCore.serve.Goals as goal

pub invariant_of-self : goal.invariant_of-self
invariant_of-self g c =
    let grown = c.serve.ensures.grows in
    record {
      names = c.self.invariant.names;
      owed = all_owed _ _ _ grown.0 _ _ grown.1.0 c.self.invariant.owed;
      said = talk_later _ grown.0 _ c.self.inside.talk grown.1.0 c.self.invariant.said;
    }
