use Rattle.book_rules.specs.NextHead.{AreLegal}
use Rattle.attribution.proofs.Lawful.{lawful}
use Rattle.attribution.proofs.Headline.{bounds_hold}
use Rattle.attribution.proofs.laws.bounds_hold.Goals as goal

pub returns : goal.returns
returns c = bounds_hold AreLegal lawful
