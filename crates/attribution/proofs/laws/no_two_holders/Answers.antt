use Rattle.attribution.specs.Lawful.{Lawful}
use Rattle.attribution.proofs.Headline.{headline}
use Rattle.attribution.proofs.Clocks.{no_two_holders}
use Rattle.attribution.proofs.Later.{timely_name_one}
use Rattle.attribution.proofs.laws.no_two_holders.Goals as goal

pub returns-clause-fitting : goal.returns-clause-fitting
returns-clause-fitting c = no_two_holders (λ side vs. Lawful vs) (headline (λ side vs. Lawful vs) (λ side vs h. h))

pub returns-clause-timely : goal.returns-clause-timely
returns-clause-timely c = timely_name_one
