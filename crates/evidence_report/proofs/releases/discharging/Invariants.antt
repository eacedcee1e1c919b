use Rattle.evidence_report.proofs.Clearing.{NoneClears}
use Rattle.evidence_report.proofs.releases.discharging.Given as goal

abbrev pub invariant-loop-index : goal.invariant-loop-index
invariant-loop-index g l = NoneClears (g.L.Lines.journals l.lines) l.skew l.piece l.release l.index-items l.index-index
