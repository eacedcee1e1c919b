use Rattle.unit_index.proofs.Charts.{IsRising}
use Rattle.unit_index.proofs.kind_tree.nodes.raise.Given as goal

abbrev pub invariant-loop-node : goal.invariant-loop-node
invariant-loop-node l = IsRising l.initial.nodes l.nodes l.count l.node

abbrev pub decreases-loop-node : goal.decreases-loop-node
decreases-loop-node l = l.node
