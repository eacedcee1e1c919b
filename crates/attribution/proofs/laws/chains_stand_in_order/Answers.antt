use Rattle.book_rules.specs.NextHead.{AreLegal}
use Rattle.attribution.proofs.Lawful.{lawful}
use Rattle.attribution.proofs.Headline.{chains_stand_in_order}
use Rattle.attribution.proofs.laws.chains_stand_in_order.Goals as goal

pub returns : goal.returns
returns c = chains_stand_in_order AreLegal lawful
