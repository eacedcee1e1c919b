use Rattle.client_id.proofs.Filling.{is_duid}
use Rattle.client_id.proofs.duid.Duid.as_bytes.Goals as goal

pub returns-clause-whole : goal.returns-clause-whole
returns-clause-whole c = is_duid _ _ c.self.invariant
