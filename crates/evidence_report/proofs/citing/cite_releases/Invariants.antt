use Rattle.std.specs.Prelude.{◌≡◌, ◌++◌, take}
use Rattle.evidence_report.specs.Pieces.{releases_in}
use Rattle.evidence_report.proofs.citing.cite_releases.Given as goal

abbrev pub invariant-loop-shown : goal.invariant-loop-shown
invariant-loop-shown l = l.refs.items ≡ l.initial.refs.items ++ releases_in (take l.shown-index l.releases)
