use Rattle.std.specs.Prelude.{[]}
use Rattle.std.proofs.Common.{take}
use Rattle.node_threads.specs.Writing.{Carried}
use Rattle.node_threads.proofs.link.write_all.Given as goal

abbrev pub invariant-loop-handed : goal.invariant-loop-handed
invariant-loop-handed g l =
    Carried g.W.Wire.brings g.W.Wire.writes l.initial.wire [] (take l.handed-index l.frames) l.wire
