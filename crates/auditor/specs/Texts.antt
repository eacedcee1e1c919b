-- The verdict on three texts, and what is then true.
use Rattle.std.specs.Prelude.{◌≡◌, ◌↔◌, ◌⊎◌, ℕ, List, Result, Ok, Err}
use Rattle.binding_rules.specs.declared.role.Role.{Role}
use Rattle.binding_rules.specs.declared.role.Role.TheVariants.{Primary, Secondary}
use Rattle.journal_lines.specs.declared.line.Journal.{Journal as Lines}
use Rattle.journal_lines.specs.declared.fault.JournalFault.{JournalFault}
use Rattle.journal_text.specs.Spelling.{journal_text, IsWritten as IsWrittenJournal}
use Rattle.journal_text.specs.Faults.{journal_of_side}
use Rattle.causal_order.specs.Journals.{journals_of}
use Rattle.causal_order.specs.declared.certificate.Certificate.{Certificate as Claim}
use Rattle.causal_order.specs.declared.fault.CertificateFault.{CertificateFault}
use Rattle.certificate.specs.Spelling.{certificate_text, IsWritten as IsWrittenCertificate}
use Rattle.certificate.specs.Faults.{certificate_of}
use Rattle.attribution.specs.declared.verdict.Verdict.{Verdict}
use Rattle.attribution.specs.declared.verdict.Verdict.TheVariants.{Accepted, Journal, Certificate}
use Rattle.book_rules.specs.NextHead.{AreLegal}
use Rattle.attribution.specs.Acceptance.{IsAccepted, IsTrueInEveryRun}
use Rattle.attribution.specs.FirstRefusal.{IsVerdict}
use Rattle.auditor.specs.Pair.{IsPairRefused, IsPairLegal}

-- a refusal of both journals, and then the certificate over them
abbrev pub IsVerdictOfJournals : Lines → Lines → (skew transit : ℕ) → Claim → Verdict → Type 0
IsVerdictOfJournals a b skew transit claim v =
    IsPairRefused a b v ⊎ (IsPairLegal a b × IsVerdict (journals_of a b) skew transit claim v)

-- the faults of the certificate's text before those
abbrev pub IsVerdictOfClaim : Lines → Lines → (skew transit : ℕ) → Result Claim CertificateFault → Verdict → Type 0
IsVerdictOfClaim a b skew transit (Ok claim) v = IsVerdictOfJournals a b skew transit claim v
IsVerdictOfClaim a b skew transit (Err fault) v = v ≡ Certificate fault

-- the faults of B's text before those of the certificate's
abbrev pub IsVerdictBehindA : Lines → Result Lines JournalFault → (skew transit : ℕ) → Result Claim CertificateFault
    → Verdict → Type 0
IsVerdictBehindA a (Ok b) skew transit claim v = IsVerdictOfClaim a b skew transit claim v
IsVerdictBehindA a (Err fault) skew transit claim v = v ≡ Journal Secondary fault

-- the faults of A's text first
abbrev pub IsVerdictOfParsed : Result Lines JournalFault → Result Lines JournalFault → (skew transit : ℕ)
    → Result Claim CertificateFault → Verdict → Type 0
IsVerdictOfParsed (Ok a) b skew transit claim v = IsVerdictBehindA a b skew transit claim v
IsVerdictOfParsed (Err fault) b skew transit claim v = v ≡ Journal Primary fault

abbrev pub IsVerdictOfTexts : (a b certificate : List ℕ) → (skew transit : ℕ) → Verdict → Type 0
IsVerdictOfTexts a b certificate skew transit v =
    IsVerdictOfParsed (journal_of_side Primary a) (journal_of_side Secondary b) skew transit
    (certificate_of certificate) v

-- the text spells a volume of this side's
pub record SpellsJournal (side : Role) (text : List ℕ) (j : Lines) : Type 0 where
  pub written : IsWrittenJournal j
  pub role : j.role ≡ side
  pub spelled : text ≡ journal_text j

pub record SpellsCertificate (text : List ℕ) (claim : Claim) : Type 0 where
  pub written : IsWrittenCertificate claim
  pub spelled : text ≡ certificate_text claim

-- the certificate that the text spells is true in every run that leaves the journals that parsing gave
abbrev pub ParsedIsTrueInEveryRun : Result Lines JournalFault → Result Lines JournalFault → List ℕ → (skew transit : ℕ)
    → Type 0
ParsedIsTrueInEveryRun a b certificate skew transit =
    (ja jb : Lines) (claim : Claim) → a ≡ Ok ja → b ≡ Ok jb → SpellsCertificate certificate claim
    → IsTrueInEveryRun AreLegal (journals_of ja jb) skew transit claim

-- the certificate that the third text spells is true in every run that leaves the journals that the first two spell
abbrev pub TextsAreTrueInEveryRun : (a b certificate : List ℕ) → (skew transit : ℕ) → Type 0
TextsAreTrueInEveryRun a b certificate skew transit = (ja jb : Lines) (claim : Claim)
    → SpellsJournal Primary a ja → SpellsJournal Secondary b jb → SpellsCertificate certificate claim
    → IsTrueInEveryRun AreLegal (journals_of ja jb) skew transit claim

-- ---- laws of verdicts on texts

-- each text is spelled, the journals keep the rules and can both be true, and the certificate is accepted over them
pub record AreAccepted (a b certificate : List ℕ) (skew transit : ℕ) : Type 0 where
  pub primary : Lines
  pub secondary : Lines
  pub claim : Claim
  pub primary_spelled : SpellsJournal Primary a primary
  pub secondary_spelled : SpellsJournal Secondary b secondary
  pub claim_spelled : SpellsCertificate certificate claim
  pub legal : IsPairLegal primary secondary
  pub accepted : IsAccepted (journals_of primary secondary) skew transit claim

-- the verdict is that it accepts exactly where the texts are accepted
abbrev pub TextsAcceptTheAccepted : Type 0
TextsAcceptTheAccepted = (a b certificate : List ℕ) (skew transit : ℕ)
    → IsVerdictOfTexts a b certificate skew transit Accepted ↔ AreAccepted a b certificate skew transit

-- there is no second verdict on three texts
abbrev pub OneTextVerdict : Type 0
OneTextVerdict = (a b certificate : List ℕ) (skew transit : ℕ) (v w : Verdict)
    → IsVerdictOfTexts a b certificate skew transit v → IsVerdictOfTexts a b certificate skew transit w → v ≡ w

-- what is accepted of texts is true in every run of the pair that leaves the journals that they spell
abbrev pub AcceptedTextsAreTrue : Type 0
AcceptedTextsAreTrue = (a b certificate : List ℕ) (skew transit : ℕ)
    → IsVerdictOfTexts a b certificate skew transit Accepted → TextsAreTrueInEveryRun a b certificate skew transit
