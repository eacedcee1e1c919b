use Rattle.std.specs.Prelude.{[]}
use Rattle.node_threads.specs.Writing.{nothing}
use Rattle.node_threads.proofs.Wires.{hears_more, has_heard, has_failed}
use Rattle.node_threads.proofs.link.hear_in_a_second.Goals as goal

pub loop-init : goal.loop-init
loop-init g c = ([], nothing)

pub returns-in-Ok-clause-heard : goal.returns-in-Ok-clause-heard
returns-in-Ok-clause-heard g c =
    hears_more g.W.Wire.brings g.W.Wire.writes g.W.Wire.fails _ _ _ _ c.loop.invariant
    c.in-Ok.ensures.came

pub returns-in-Ok-clause-ended : goal.returns-in-Ok-clause-ended
returns-in-Ok-clause-ended g c =
    has_heard g.W.Wire.brings g.W.Wire.writes g.W.Wire.fails _ _
    (hears_more g.W.Wire.brings g.W.Wire.writes g.W.Wire.fails _ _ _ _ c.loop.invariant c.in-Ok.ensures.came)

pub returns-in-Err-clause-ended : goal.returns-in-Err-clause-ended
returns-in-Err-clause-ended g c =
    has_failed g.W.Wire.brings g.W.Wire.writes g.W.Wire.fails _ _ _ c.loop.invariant c.in-Err.ensures.failed

pub returns-clause-ended : goal.returns-clause-ended
returns-clause-ended g c = has_heard g.W.Wire.brings g.W.Wire.writes g.W.Wire.fails _ _ c.loop.invariant

pub loop-preserved : goal.loop-preserved
loop-preserved g c =
    hears_more g.W.Wire.brings g.W.Wire.writes g.W.Wire.fails _ _ _ _ c.loop.invariant
    c.in-Ok-Idle.ensures.came
