use Rattle.attribution.proofs.Refusals.{accepts_the_accepted, one_verdict}
use Rattle.attribution.proofs.laws.verdict_is_one.Goals as goal

pub returns-clause-accepts : goal.returns-clause-accepts
returns-clause-accepts c = accepts_the_accepted

pub returns-clause-one : goal.returns-clause-one
returns-clause-one c = one_verdict
