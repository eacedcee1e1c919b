use Rattle.std.specs.Prelude.{ℕ}
use Rattle.causal_order.specs.declared.certificate.Certificate.{Certificate}
use Rattle.causal_order.specs.Journals.{Journals}
use Rattle.attribution.specs.Acceptance.{IsPastPartner}
use Rattle.auditor.proofs.Tiling.{HaveHeld}
use Rattle.evidence_report.specs.Reports.{IsReport}
use Rattle.evidence_report.proofs.failing.piece_before_open.Given as goal

abbrev pub invariant-loop-index : goal.invariant-loop-index
invariant-loop-index l = (js : Journals) (skew transit : ℕ) (c : Certificate) → IsReport js skew transit c l.report
    → HaveHeld (IsPastPartner js skew) c.pieces l.index
