use Rattle.std.proofs.Common.{◌≡◌, length}
use Rattle.journal_heads.specs.Heads.{transit_of}
use Rattle.journal_heads.proofs.head.transit_of.Given as goal

abbrev pub invariant-loop-rest : goal.invariant-loop-rest
invariant-loop-rest l = transit_of l.settings ≡ transit_of l.rest

abbrev pub decreases-loop-rest : goal.decreases-loop-rest
decreases-loop-rest l = length l.rest
