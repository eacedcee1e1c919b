use Rattle.std.proofs.Common.{◌∙◌}
use Rattle.evidence_search.proofs.widening.widest.Goals as goal

pub returns-clause-earliest : goal.returns-clause-earliest
returns-clause-earliest g c m is = c.in_ok-found-2.ensures.earliest m (is ∙ c.in_ok-found-3.ensures.from)
