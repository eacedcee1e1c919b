use Rattle.std.proofs.Common.{◌≡◌, ◌++◌, ◌+◌, map, drop}
use Rattle.report_document.specs.Telling.{told_of}
use Rattle.report_document.specs.Whole.{pieces_told}
use Rattle.report_document.proofs.document.push_pieces.Given as goal

-- what is told, and what is left to tell
abbrev pub invariant-loop-index : goal.invariant-loop-index
invariant-loop-index l =
    map told_of l.out.items ++ pieces_told l.skew l.transit (l.index + 1) (drop l.index l.pieces)
    ≡ map told_of l.initial.out.items ++ pieces_told l.skew l.transit 1 l.pieces
