use Rattle.std.proofs.Common.{◌≡◌, ◌++◌, take}
use Rattle.std.specs.List.{flat_map}
use Rattle.report_render.specs.Picture.{bars_of, piece_bar}
use Rattle.report_render.proofs.taking.push_pieces.Given as goal

abbrev pub invariant-loop-piece : goal.invariant-loop-piece
invariant-loop-piece l =
    l.bars.items
    ≡ l.initial.bars.items ++ flat_map (λ p. bars_of (piece_bar l.skew l.transit p)) (take l.piece-index l.pieces)
