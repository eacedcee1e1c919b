-- A ruling, with what it rests on.
use Rattle.std.specs.Prelude.{◌≡◌, ◌⊎◌, ℕ, Some, None, Result, Ok, Err}
use Rattle.binding_rules.specs.declared.role.Role.TheVariants.{Primary, Secondary}
use Rattle.journal_lines.specs.declared.fault.JournalFault.{JournalFault}
use Rattle.journal_lines.specs.declared.line.Journal.{Journal as Lines}
use Rattle.causal_order.specs.declared.certificate.Certificate.{Certificate as Claim}
use Rattle.causal_order.specs.Journals.{Journals, journals_of}
use Rattle.certificate.specs.declared.error.CertificateError.{CertificateError}
use Rattle.certificate.specs.declared.error.CertificateError.TheVariants.{Fault}
use Rattle.attribution.specs.declared.verdict.Verdict.{Verdict as VerdictValue}
use Rattle.attribution.specs.declared.verdict.Verdict.TheVariants.{Journal, Certificate}
use Rattle.attribution.specs.FirstRefusal.{IsVerdict}
use Rattle.pair_judgement.specs.declared.judging.Judgement.TheVariants.{Verdict}
use Rattle.pair_judgement.specs.PairJudgements.{IsRuledOut, IsFit}
use Rattle.evidence_report.specs.declared.report.Report.{Report}
use Rattle.evidence_report.specs.Reports.{IsReport}
use Rattle.evidence_report.specs.Failures.{IsFailureOf}
use Rattle.report_document.specs.declared.document.Explanation.{Explanation}

-- the verdict on the certificate, all that this shows, and the comparison that a refusal rests on
abbrev pub IsFullExplanation : Journals → (skew transit : ℕ) → Claim → Explanation → Type 0
IsFullExplanation js skew transit claim shown =
    (v : VerdictValue) × (r : Report) × (shown.ruling ≡ Verdict v) × IsVerdict js skew transit claim v
    × (shown.report ≡ Some r) × IsReport js skew transit claim r
    × IsFailureOf js skew transit claim v shown.failure

-- nothing is shown of the certificate
abbrev pub IsBare : Explanation → Type 0
IsBare shown = (shown.report ≡ None) × (shown.failure ≡ None)

-- what stands against both journals, or else that
abbrev pub IsExplained : Lines → Lines → (skew transit : ℕ) → Claim → Explanation → Type 0
IsExplained a b skew transit claim shown =
    (IsRuledOut a b skew shown.ruling × IsBare shown)
    ⊎ (IsFit a b skew × IsFullExplanation (journals_of a b) skew transit claim shown)

-- the fault of a text before all of that
abbrev pub IsFaulty : VerdictValue → Explanation → Type 0
IsFaulty v shown = (shown.ruling ≡ Verdict v) × IsBare shown

-- of what a third text was read to
abbrev pub IsExplainedOf : Lines → Lines → (skew transit : ℕ) → Result Claim CertificateError → Explanation → Type 0
IsExplainedOf a b skew transit (Ok claim) shown = IsExplained a b skew transit claim shown
IsExplainedOf a b skew transit (Err (Fault fault)) shown = IsFaulty (Certificate fault) shown
IsExplainedOf a b skew transit (Err _) shown = ⊥

abbrev pub IsExplainedBehindA : Lines → Result Lines JournalFault → (skew transit : ℕ)
    → Result Claim CertificateError → Explanation → Type 0
IsExplainedBehindA a (Ok b) skew transit claim shown = IsExplainedOf a b skew transit claim shown
IsExplainedBehindA a (Err fault) skew transit claim shown = IsFaulty (Journal Secondary fault) shown

-- of what two texts are as journals, and what a third was read to: the first fault, or what is explained
abbrev pub IsExplainedOfRead : Result Lines JournalFault → Result Lines JournalFault → (skew transit : ℕ)
    → Result Claim CertificateError → Explanation → Type 0
IsExplainedOfRead (Ok a) b skew transit claim shown = IsExplainedBehindA a b skew transit claim shown
IsExplainedOfRead (Err fault) b skew transit claim shown = IsFaulty (Journal Primary fault) shown
