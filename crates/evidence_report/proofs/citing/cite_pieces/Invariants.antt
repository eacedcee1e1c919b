use Rattle.std.specs.Prelude.{◌≡◌, ◌++◌, take}
use Rattle.std.specs.List.{flat_map}
use Rattle.evidence_report.specs.Cited.{piece_lines}
use Rattle.evidence_report.proofs.citing.cite_pieces.Given as goal

abbrev pub invariant-loop-piece : goal.invariant-loop-piece
invariant-loop-piece l = l.refs.items ≡ l.initial.refs.items ++ flat_map piece_lines (take l.piece-index l.pieces)
