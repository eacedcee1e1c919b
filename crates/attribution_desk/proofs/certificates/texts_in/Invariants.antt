use Rattle.std.proofs.Common.{ℕ, List, ◌++◌, length}
use Rattle.attribution_desk.specs.Batch.{AreTexts}
use Rattle.attribution_desk.specs.Claims.{texts_of}
use Rattle.attribution_desk.proofs.certificates.texts_in.Given as goal

abbrev pub invariant-loop-rest : goal.invariant-loop-rest
invariant-loop-rest l = (more : List (List ℕ)) → AreTexts l.rest more
    → AreTexts l.fn.rest (texts_of l.claims.items ++ more)

abbrev pub decreases-loop-rest : goal.decreases-loop-rest
decreases-loop-rest l = length l.rest
