use Rattle.prefix_range.proofs.Offsets.{IsSoFar}
use Rattle.prefix_range.proofs.canonical.address_of.Given as goal

abbrev pub invariant-loop-i : goal.invariant-loop-i
invariant-loop-i l = IsSoFar l.text l.i l.address
