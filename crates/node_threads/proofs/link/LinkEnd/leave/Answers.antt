use Rattle.std.specs.Prelude.{refl}
use Rattle.node_threads.proofs.Linking.{then_says}
use Rattle.node_threads.proofs.link.LinkEnd.leave.Goals as goal

pub returns-in-Ok-clause-told : goal.returns-in-Ok-clause-told
returns-in-Ok-clause-told g c =
    then_says g.W.Wire.brings g.W.Wire.writes g.W.Wire.fails _ _ _ refl _ _ _ _ _ _ _ _ c.in-Ok.ensures.out
    c.disconnect.ensures
