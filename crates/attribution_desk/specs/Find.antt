-- What the desk answers where it is asked for the evidence of a delegation.
use Rattle.std.specs.Prelude.{◌≡◌, ◌⊎◌, ℕ, List, [], Ok, codes}
use Rattle.causal_order.specs.Journals.{Journals}
use Rattle.causal_order.specs.declared.certificate.Certificate.{Certificate}
use Rattle.certificate.specs.Spelling.{certificate_text}
use Rattle.certificate.specs.Faults.{certificate_of}
use Rattle.attribution.specs.declared.verdict.Verdict.TheVariants.{Accepted}
use Rattle.attribution.specs.FirstRefusal.{IsVerdict}
use Rattle.plain_search.specs.declared.query.Query.{Query}
use Rattle.evidence_search.specs.Claim.{Claims, IsAuditorAccepted, HasNoPlainEvidence, IsTooLong}
use Rattle.attribution_desk.specs.declared.finding.Finding.{Finding}
use Rattle.attribution_desk.specs.declared.finding.Finding.TheVariants.{Shown, NoneFound, TooLong}

-- the same client, prefix and interval
abbrev pub ClaimSame : Certificate → Certificate → Type 0
ClaimSame c d = (c.holder ≡ d.holder) × (c.prefix ≡ d.prefix) × (c.from ≡ d.from) × (c.to ≡ d.to)

-- what a certificate's text is read as: one that claims the same, and that an auditor accepts
pub record IsReadAgain (js : Journals) (skew transit : ℕ) (c again : Certificate) : Type 0 where
  pub read : certificate_of (certificate_text c) ≡ Ok again
  pub spelled : certificate_text c ≡ certificate_text again
  pub same : ClaimSame again c
  pub verdict : IsVerdict js skew transit again Accepted

-- nothing is: the text is over the limits of a certificate's text
abbrev pub IsOverLimits : Journals → (skew transit : ℕ) → Certificate → Type 0
IsOverLimits js skew transit c = (again : Certificate) → IsReadAgain js skew transit c again → ⊥

-- the line that says so to a person
abbrev pub over_limits : List ℕ
over_limits = codes "warning Length: the evidence that was found has more lines than a certificate may have, 65536\n"

-- a certificate that claims what is asked and that an auditor accepts, which is what its text is read as
pub record IsFound (js : Journals) (q : Query) (c : Certificate) : Type 0 where
  pub claims : Claims q c
  pub shown : IsAuditorAccepted js q c
  pub read : certificate_of (certificate_text c) ≡ Ok c

-- one is accepted, and its text is over the limits
pub record IsNotGiven (js : Journals) (q : Query) : Type 0 where
  pub certificate : Certificate
  pub claims : Claims q certificate
  pub shown : IsAuditorAccepted js q certificate
  pub over : IsOverLimits js q.skew q.transit certificate

-- the evidence; or none, where no plain one is accepted; or too long, where the text of one that is accepted is over the
-- limits, or where single lines show it by more lines than a certificate's text may have
abbrev pub IsFinding : Journals → Query → Finding → Type 0
IsFinding js q (Shown c) = IsFound js q c
IsFinding js q NoneFound = HasNoPlainEvidence js q
IsFinding js q TooLong = IsNotGiven js q ⊎ IsTooLong js q

-- ---- how it is written

-- the certificate's text, or that there is none
abbrev pub evidence_text : Finding → List ℕ
evidence_text (Shown c) = certificate_text c
evidence_text NoneFound = codes "none\n"
evidence_text TooLong = codes "none\n"

-- 0 where evidence was found
abbrev pub finding_status : Finding → ℕ
finding_status (Shown c) = 0
finding_status NoneFound = 1
finding_status TooLong = 1

-- a line for a person, where what was found isn't given
abbrev pub finding_note : Finding → List ℕ
finding_note (Shown c) = []
finding_note NoneFound = []
finding_note TooLong = over_limits
