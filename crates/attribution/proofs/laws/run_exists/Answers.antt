use Rattle.attribution.proofs.Fitting.{first_volumes_fit}
use Rattle.attribution.proofs.Later.{volumes_fit}
use Rattle.attribution.proofs.laws.run_exists.Goals as goal

pub returns-clause-first : goal.returns-clause-first
returns-clause-first c = first_volumes_fit

pub returns-clause-exact : goal.returns-clause-exact
returns-clause-exact c = volumes_fit
