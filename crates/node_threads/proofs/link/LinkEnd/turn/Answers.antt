use Rattle.std.specs.Prelude.{[], refl}
use Rattle.std.proofs.Common.{inl, inr}
use Rattle.node_threads.specs.Writing.{nothing}
use Rattle.node_threads.proofs.Linking.{told_nothing, read_then_tells, read_then_whole}
use Rattle.node_threads.proofs.link.LinkEnd.turn.Goals as goal

pub returns-in_default-clause-told : goal.returns-in_default-clause-told
returns-in_default-clause-told g c =
    told_nothing g.W.Wire.brings g.W.Wire.writes g.W.Wire.fails _ _ _ _ _ _ _ [] _ (inl refl) nothing (inr
    c.in_default.ensures.failed)

pub returns-clause-told : goal.returns-clause-told
returns-clause-told g c =
    read_then_tells g.W.Wire.brings g.W.Wire.writes g.W.Wire.fails _ _ _ _ _ _ _ _ _ _ _ c.came-came.ensures
    c.in-Ok.ensures.came _ c.tell.ensures.told

pub returns-clause-whole : goal.returns-clause-whole
returns-clause-whole g c =
    read_then_whole g.W.Wire.brings g.W.Wire.writes g.W.Wire.fails _ _ _ _ _ _ _ _ _ _ _ c.came-came.ensures
    c.in-Ok.ensures.came _ _ c.tell.ensures.whole
