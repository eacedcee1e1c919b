use Rattle.attribution.specs.Lawful.{Lawful}
use Rattle.attribution.proofs.Lawful.{lawful}
use Rattle.attribution.proofs.Headline.{headline}
use Rattle.attribution.proofs.laws.lawful_is_enough.Goals as goal

pub returns-clause-enough : goal.returns-clause-enough
returns-clause-enough c = headline (λ side vs. Lawful vs) (λ side vs h. h)

pub returns-clause-legal : goal.returns-clause-legal
returns-clause-legal c = lawful
