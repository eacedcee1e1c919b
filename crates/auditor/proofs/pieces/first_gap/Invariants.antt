use Rattle.auditor.proofs.Tiling.{AreInPlace}
use Rattle.auditor.proofs.pieces.first_gap.Given as goal

abbrev pub invariant-loop-index : goal.invariant-loop-index
invariant-loop-index l = AreInPlace l.certificate l.index l.begin
