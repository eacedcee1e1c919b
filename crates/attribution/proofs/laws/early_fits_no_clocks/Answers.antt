use Rattle.attribution.specs.Lawful.{Lawful}
use Rattle.attribution.proofs.Clocks.{early_fits_no_clocks}
use Rattle.attribution.proofs.laws.early_fits_no_clocks.Goals as goal

pub returns : goal.returns
returns c = early_fits_no_clocks (λ side vs. Lawful vs) (λ side vs h. h)
