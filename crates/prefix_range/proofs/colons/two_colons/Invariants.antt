use Rattle.prefix_range.proofs.Neighbours.{NoneBefore}
use Rattle.prefix_range.proofs.colons.two_colons.Given as goal

abbrev pub invariant-loop-next : goal.invariant-loop-next
invariant-loop-next l = NoneBefore l.text l.next
