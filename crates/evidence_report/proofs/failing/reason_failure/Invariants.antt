use Rattle.std.specs.Prelude.{ℕ}
use Rattle.causal_order.specs.declared.certificate.Certificate.{Certificate}
use Rattle.causal_order.specs.Journals.{Journals}
use Rattle.attribution.specs.Acceptance.{ReasonHolds}
use Rattle.auditor.proofs.Tiling.{HaveHeld}
use Rattle.evidence_report.specs.Reports.{IsReport}
use Rattle.evidence_report.proofs.failing.reason_failure.Given as goal

abbrev pub invariant-loop-shown : goal.invariant-loop-shown
invariant-loop-shown l = (js : Journals) (skew transit : ℕ) (c : Certificate) → IsReport js skew transit c l.report
    → HaveHeld (ReasonHolds js skew transit c) c.foreign l.shown-index
