use Rattle.std.proofs.Common.{◌≡◌, ◌+◌, ◌-◌}
use Rattle.plain_search.specs.Limits.{lines_of_all}
use Rattle.plain_search.specs.Search.{IsPassed}
use Rattle.plain_search.proofs.Tiling.{AreSoFar}
use Rattle.plain_search.proofs.plain_pieces.pieces_of.Given as goal

abbrev pub invariant-loop-alloc : goal.invariant-loop-alloc
invariant-loop-alloc g l = AreSoFar (g.S.Lines.journals l.source) l.query l.pieces.items l.from
    × IsPassed l.reaches l.from l.passed
    × (lines_of_all l.pieces.items + l.left ≡ l.room)

abbrev pub decreases-loop-alloc : goal.decreases-loop-alloc
decreases-loop-alloc g l = l.query.to - l.from
