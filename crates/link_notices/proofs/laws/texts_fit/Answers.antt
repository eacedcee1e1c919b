use Rattle.link_notices.proofs.TextLengths.{text_fits}
use Rattle.link_notices.proofs.laws.texts_fit.Goals as goal

pub returns : goal.returns
returns c = text_fits
