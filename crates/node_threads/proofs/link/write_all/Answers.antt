use Rattle.std.specs.Prelude.{⊤}
use Rattle.std.proofs.Common.{add-one, arith}
use Rattle.node_threads.specs.Writing.{nothing}
use Rattle.node_threads.proofs.Wires.{one_written, one_left, all_behind_the_last}
use Rattle.node_threads.proofs.link.write_all.Goals as goal

pub loop-handed-init : goal.loop-handed-init
loop-handed-init g c = nothing

pub returns-in-Err-clause-out : goal.returns-in-Err-clause-out
returns-in-Err-clause-out g c =
    one_left g.W.Wire.brings g.W.Wire.writes g.W.Wire.fails c.args.frames.now c.loop-handed.handed-index
    c.handed-item.result
    c.loop-handed-test.true c.handed-item.is _ _ _ c.loop-handed.invariant ⊤ _ c.in-Err.error c.in-Err.ensures

pub loop-handed-preserved : goal.loop-handed-preserved
loop-handed-preserved g c =
    rw (add-one c.loop-handed.handed-index)
    (one_written g.W.Wire.brings g.W.Wire.writes g.W.Wire.fails c.args.frames.now c.loop-handed.handed-index
    c.handed-item.result
    c.loop-handed-test.true c.handed-item.is _ _ _ c.loop-handed.invariant c.in-Ok.ensures)

pub returns-clause-out : goal.returns-clause-out
returns-clause-out g c =
    all_behind_the_last g.W.Wire.brings g.W.Wire.writes g.W.Wire.fails c.args.frames.now c.loop-handed.handed-index _
    _ _
    (omega (arith, c.loop-handed-test.false, c.loop-handed.auto.handed-index-end)) c.loop-handed.invariant
