-- What the desk rules on three texts: the definition of the verdict, with K1 and K4 after what refuses the two journals
-- and before what is asked of the certificate.
use Rattle.std.specs.Prelude.{◌≡◌, ◌⊎◌, ℕ, Result, Ok, Err}
use Rattle.binding_rules.specs.declared.role.Role.TheVariants.{Primary, Secondary}
use Rattle.journal_lines.specs.declared.line.Journal.{Journal as Lines}
use Rattle.journal_lines.specs.declared.fault.JournalFault.{JournalFault}
use Rattle.causal_order.specs.Journals.{Journals, journals_of}
use Rattle.causal_order.specs.declared.certificate.Certificate.{Certificate as Claim}
use Rattle.causal_order.specs.declared.fault.CertificateFault.{CertificateFault}
use Rattle.attribution.specs.declared.verdict.Verdict.TheVariants.{Journal, Certificate}
use Rattle.attribution.specs.FirstRefusal.{IsVerdict}
use Rattle.pair_judgement.specs.declared.judging.Judgement.{Judgement}
use Rattle.pair_judgement.specs.declared.judging.Judgement.TheVariants.{Verdict}
use Rattle.pair_judgement.specs.PairJudgements.{IsRuledOut, IsFit}

-- the verdict on the certificate
abbrev pub IsJudged : Journals → (skew transit : ℕ) → Claim → Judgement → Type 0
IsJudged js skew transit claim (Verdict v) = IsVerdict js skew transit claim v
IsJudged js skew transit claim _ = ⊥

-- what stands against both journals, and then the certificate over them
abbrev pub IsJudgementOfJournals : Lines → Lines → (skew transit : ℕ) → Claim → Judgement → Type 0
IsJudgementOfJournals a b skew transit claim r =
    IsRuledOut a b skew r ⊎ (IsFit a b skew × IsJudged (journals_of a b) skew transit claim r)

-- the faults of the certificate's text before those
abbrev pub IsJudgementOfCertificate : Lines → Lines → (skew transit : ℕ) → Result Claim CertificateFault → Judgement → Type 0
IsJudgementOfCertificate a b skew transit (Ok claim) r = IsJudgementOfJournals a b skew transit claim r
IsJudgementOfCertificate a b skew transit (Err fault) r = r ≡ Verdict (Certificate fault)

-- the faults of B's text before those of the certificate's
abbrev pub IsRulingBehindA : Lines → Result Lines JournalFault → (skew transit : ℕ) → Result Claim CertificateFault
    → Judgement → Type 0
IsRulingBehindA a (Ok b) skew transit claim r = IsJudgementOfCertificate a b skew transit claim r
IsRulingBehindA a (Err fault) skew transit claim r = r ≡ Verdict (Journal Secondary fault)

-- the faults of A's text first
abbrev pub IsJudgementOfParsed : Result Lines JournalFault → Result Lines JournalFault → (skew transit : ℕ)
    → Result Claim CertificateFault → Judgement → Type 0
IsJudgementOfParsed (Ok a) b skew transit claim r = IsRulingBehindA a b skew transit claim r
IsJudgementOfParsed (Err fault) b skew transit claim r = r ≡ Verdict (Journal Primary fault)
