use Rattle.std.specs.Prelude.{List, ◌++◌}
use Rattle.std.proofs.Common.{drop}
use Rattle.archive_desk.specs.declared.judging.ArchiveJudgement.{ArchiveJudgement}
use Rattle.archive_desk.specs.Certificates.{AreTaken}
use Rattle.archive_desk.proofs.certificates.judged_of.Given as goal

-- what is taken of those that are left, behind what was taken, is what is taken of all
abbrev pub invariant-loop-one : goal.invariant-loop-one
invariant-loop-one l = (more : List ArchiveJudgement) → AreTaken (drop l.one-index l.waiting) more
    → AreTaken l.waiting (l.all.items ++ more)
