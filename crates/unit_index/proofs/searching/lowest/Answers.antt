use Rattle.unit_index.proofs.LeastUnits.{least_anywhere}
use Rattle.unit_index.proofs.searching.lowest.Goals as goal

pub returns : goal.returns
returns c = least_anywhere _ _ _ c.lowest_from.ensures
