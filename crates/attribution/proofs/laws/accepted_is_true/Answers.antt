use Rattle.book_rules.specs.NextHead.{AreLegal}
use Rattle.attribution.proofs.Lawful.{lawful}
use Rattle.attribution.proofs.Headline.{headline}
use Rattle.attribution.proofs.laws.accepted_is_true.Goals as goal

pub returns : goal.returns
returns c = headline AreLegal lawful
