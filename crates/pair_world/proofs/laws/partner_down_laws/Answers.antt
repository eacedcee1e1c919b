use Rattle.pair_world.proofs.Safety.{partner_down_laws}
use Rattle.pair_world.proofs.laws.partner_down_laws.Goals as goal

pub returns : goal.returns
returns c = partner_down_laws
