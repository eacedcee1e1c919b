use Rattle.std.specs.Prelude.{◌≡◌, ◌++◌, take}
use Rattle.std.specs.List.{flat_map}
use Rattle.evidence_report.specs.Pieces.{releases_in}
use Rattle.evidence_report.proofs.citing.cite_reports.Given as goal

abbrev pub invariant-loop-piece : goal.invariant-loop-piece
invariant-loop-piece l = l.refs.items ≡ l.initial.refs.items ++ flat_map (λ s. releases_in s.releases.told.items) (take l.piece-index l.pieces)
