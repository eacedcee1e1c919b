use Rattle.book_rules.specs.NextHead.{AreLegal}
use Rattle.attribution.proofs.Lawful.{lawful}
use Rattle.attribution.proofs.Headline.{late_after_close}
use Rattle.attribution.proofs.laws.late_after_close.Goals as goal

pub returns : goal.returns
returns c = late_after_close AreLegal lawful
