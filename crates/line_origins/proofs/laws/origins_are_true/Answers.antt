use Rattle.line_origins.proofs.Truth.{origins_are_true}
use Rattle.line_origins.proofs.laws.origins_are_true.Goals as goal

pub returns : goal.returns
returns c = origins_are_true
