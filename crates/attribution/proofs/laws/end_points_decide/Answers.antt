use Rattle.attribution.proofs.Tiling.{end_points}
use Rattle.attribution.proofs.laws.end_points_decide.Goals as goal

pub returns : goal.returns
returns c = end_points
