use Rattle.attribution.proofs.Tiling.{pieces_meet}
use Rattle.attribution.proofs.laws.pieces_meet_every_moment.Goals as goal

pub returns : goal.returns
returns c = pieces_meet
