use Rattle.std.specs.Prelude.{◌≡◌, ◌++◌, take}
use Rattle.std.specs.List.{flat_map}
use Rattle.evidence_report.specs.Cited.{foreign_lines}
use Rattle.evidence_report.proofs.citing.cite_entries.Given as goal

abbrev pub invariant-loop-entry : goal.invariant-loop-entry
invariant-loop-entry l = l.refs.items ≡ l.initial.refs.items ++ flat_map foreign_lines (take l.entry-index l.entries)
