use Rattle.std.proofs.Common.{◌≡◌, length}
use Rattle.journal_heads.specs.Heads.{skew_of}
use Rattle.journal_heads.proofs.head.skew_of.Given as goal

abbrev pub invariant-loop-rest : goal.invariant-loop-rest
invariant-loop-rest l = skew_of l.settings ≡ skew_of l.rest

abbrev pub decreases-loop-rest : goal.decreases-loop-rest
decreases-loop-rest l = length l.rest
