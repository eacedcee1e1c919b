use Rattle.std.proofs.Common.{length, ◌≡◌, ◌++◌}
use Rattle.line_origins.specs.Parts.{parts_from, AllFitBehind}
use Rattle.line_origins.proofs.parts.parts_from.Given as goal

abbrev pub invariant-loop-rest : goal.invariant-loop-rest
invariant-loop-rest l =
    (l.parts.items ++ parts_from l.part l.until_close l.rest ≡ parts_from l.fn.first l.first_close l.further)
    × AllFitBehind l.until_close l.rest

abbrev pub decreases-loop-rest : goal.decreases-loop-rest
decreases-loop-rest l = length l.rest
