use Rattle.std.specs.Prelude.{◌≡◌, ◌++◌, take}
use Rattle.std.specs.List.{flat_map}
use Rattle.evidence_report.specs.Cited.{clear_lines}
use Rattle.evidence_report.proofs.citing.cite_clears.Given as goal

abbrev pub invariant-loop-clear : goal.invariant-loop-clear
invariant-loop-clear l = l.refs.items ≡ l.initial.refs.items ++ flat_map clear_lines (take l.clear-index l.entries)
