use Rattle.node_threads.specs.Writing.{MayHear}
use Rattle.node_threads.proofs.link.hear_out.Given as goal

abbrev pub invariant-loop : goal.invariant-loop
invariant-loop g l = MayHear g.W.Wire.brings g.W.Wire.writes l.initial.wire l.wire
