use Rattle.candidate_leases.proofs.NobodyLaw.{nobody_is_true}
use Rattle.candidate_leases.proofs.laws.nobody_is_true.Goals as goal

pub returns : goal.returns
returns c = nobody_is_true c.lawful_is_enough.ensures.legal
