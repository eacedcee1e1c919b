use Rattle.std.proofs.Common.{length, ◌≡◌}
use Rattle.line_origins.specs.Parts.{origin_in}
use Rattle.line_origins.proofs.finding.origin_of.Given as goal

abbrev pub invariant-loop-rest : goal.invariant-loop-rest
invariant-loop-rest l = origin_in l.rest l.number ≡ origin_in l.parts l.number

abbrev pub decreases-loop-rest : goal.decreases-loop-rest
decreases-loop-rest l = length l.rest
