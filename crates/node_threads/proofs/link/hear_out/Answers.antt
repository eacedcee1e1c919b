use Rattle.std.specs.Prelude.{[]}
use Rattle.node_threads.specs.Writing.{nothing}
use Rattle.node_threads.proofs.Wires.{hears_till, hears_on_and_on, has_heard}
use Rattle.node_threads.proofs.link.hear_out.Goals as goal

pub loop-init : goal.loop-init
loop-init g c = ([], nothing)

pub returns-in-Ok-Idle : goal.returns-in-Ok-Idle
returns-in-Ok-Idle g c =
    hears_till g.W.Wire.brings g.W.Wire.writes g.W.Wire.fails _ _ _ c.loop.invariant
    c.hear_in_a_second.ensures.ended

pub returns-in-Ok-Idle-2 : goal.returns-in-Ok-Idle-2
returns-in-Ok-Idle-2 g c =
    hears_till g.W.Wire.brings g.W.Wire.writes g.W.Wire.fails _ _ _ c.loop.invariant
    c.hear_in_a_second.ensures.ended

pub returns : goal.returns
returns g c = has_heard g.W.Wire.brings g.W.Wire.writes g.W.Wire.fails _ _ c.loop.invariant

pub loop-preserved : goal.loop-preserved
loop-preserved g c =
    hears_on_and_on g.W.Wire.brings g.W.Wire.writes g.W.Wire.fails _ _ _ c.loop.invariant
    c.in-Ok-Octets.ensures.heard
