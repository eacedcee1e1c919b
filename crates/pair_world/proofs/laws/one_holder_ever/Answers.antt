use Rattle.pair_world.proofs.Safety.{one_holder}
use Rattle.pair_world.proofs.laws.one_holder_ever.Goals as goal

pub returns : goal.returns
returns c = one_holder
