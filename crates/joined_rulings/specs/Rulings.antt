-- Certificates, ruled over the volumes that show their moments and earlier ones.
use Rattle.std.specs.Prelude.{◌≡◌, ◌⊎◌, ⊤, ℕ, List, [], ◌∷◌, Result, Ok, Err, Some, None}
use Rattle.std.specs.declared.path.buf.PathBuf.{PathBuf}
use Rattle.causal_order.specs.declared.certificate.Certificate.{Certificate as Claim}
use Rattle.causal_order.specs.declared.fault.CertificateFault.{CertificateFault}
use Rattle.certificate.specs.Faults.{certificate_of}
use Rattle.journal_archive.specs.declared.archive.Archive.{Archive}
use Rattle.archive_files.specs.declared.cataloguing.Catalogue.{Catalogue}
use Rattle.archive_files.specs.declared.settings_check.SettingsScope.TheVariants.{OfEach}
use Rattle.archive_files.specs.Catalogues.{IsCatalogue}
use Rattle.archive_files.specs.Ties.{AreTied}
use Rattle.archive_desk.specs.declared.certificates.JudgedAnswer.{JudgedAnswer}
use Rattle.archive_desk.specs.declared.coverage_gaps.TimingBounds.{TimingBounds}
use Rattle.archive_desk.specs.declared.judging.ArchiveJudgement.{ArchiveJudgement}
use Rattle.archive_desk.specs.declared.judging.PairWarnings.{PairWarnings}
use Rattle.archive_desk.specs.Certificates.{AreRuledAnew}
use Rattle.archive_desk.specs.Judging.{Accepts}
use Rattle.archive_desk.specs.Unread.{AllRead}
use Rattle.joined_rulings.specs.declared.trial.SpanRuling.{SpanRuling}
use Rattle.joined_rulings.specs.declared.trial.SpanAcceptance.{SpanAcceptance}
use Rattle.joined_rulings.specs.declared.widest.CertificateRuling.{CertificateRuling}
use Rattle.joined_rulings.specs.declared.widest.CertificateRuling.TheVariants.{Own, Joined}
use Rattle.joined_rulings.specs.declared.widest.SpannedAudit.{SpannedAudit}
use Rattle.joined_rulings.specs.Trying.{IsTried}
use Rattle.joined_rulings.specs.Truth.{AreTrueRulings}

-- ---- on one certificate, on which its own pair of volumes ruled so

-- no spans accept it that are tried; a text that is at fault isn't tried
abbrev pub NoneAccept : (had : ℕ → List ℕ → Type 0) → Archive → TimingBounds → Result Claim CertificateFault → Type 0
NoneAccept had archive bounds (Ok c) = IsTried had archive bounds c None
NoneAccept had archive bounds (Err fault) = ⊤

-- it's accepted over the first spans that do
abbrev pub IsJoinedRuling : (had : ℕ → List ℕ → Type 0) → Archive → TimingBounds → Result Claim CertificateFault
    → SpanRuling → Type 0
IsJoinedRuling had archive bounds (Ok c) ruling =
    (a : SpanAcceptance) × (a.ruling ≡ ruling) × IsTried had archive bounds c (Some a)
IsJoinedRuling had archive bounds (Err fault) ruling = ⊥

-- the ruling of its own pair, where that accepts it or no spans do that are tried; or else that of the first that do
abbrev pub IsRulingOn : (had : ℕ → List ℕ → Type 0) → Archive → TimingBounds → Result Claim CertificateFault
    → (own : ArchiveJudgement) → CertificateRuling → Type 0
IsRulingOn had archive bounds certificate own (Own judged) =
    (judged ≡ own) × (Accepts own ⊎ NoneAccept had archive bounds certificate)
IsRulingOn had archive bounds certificate own (Joined ruling) =
    (Accepts own → ⊥) × IsJoinedRuling had archive bounds certificate ruling

-- ---- on many

-- on each of the texts, in order
abbrev pub AreRulings : (had : ℕ → List ℕ → Type 0) → Archive → TimingBounds → (texts : List (List ℕ))
    → (owns : List ArchiveJudgement) → List CertificateRuling → Type 0
AreRulings had archive bounds [] [] [] = ⊤
AreRulings had archive bounds (text ∷ texts) (own ∷ owns) (r ∷ rs) =
    IsRulingOn had archive bounds (certificate_of text) own r × AreRulings had archive bounds texts owns rs
AreRulings had archive bounds _ _ _ = ⊥

-- by what the certificates' own pairs answer, with the warnings on these; and what is accepted is true
pub record IsRuledWidest (had : ℕ → List ℕ → Type 0) (archive : Archive) (bounds : TimingBounds)
    (texts : List (List ℕ)) (warnings : List PairWarnings) (rulings : List CertificateRuling) : Type 0 where
  pub own : JudgedAnswer
  pub is_own : AreRuledAnew had archive bounds texts own
  pub warned : warnings ≡ own.warnings.items
  pub ruled : AreRulings had archive bounds texts own.judged.items rulings
  pub accepted : AreTrueRulings had archive bounds texts rulings

-- over the volumes that so many files are, none of which is unknown since its file can't be read, and with the other
-- files
pub record IsSpannedAudit {A : Type 0} (had : ℕ → List ℕ → Type 0) (count : ℕ) (names : List (PathBuf A))
    (texts : List (List ℕ)) (bounds : TimingBounds) (audit : SpannedAudit) : Type 0 where
  pub catalogue : Catalogue
  pub is_catalogue : IsCatalogue had count catalogue
  pub tied : AreTied had OfEach catalogue.archive.primary catalogue.archive.secondary
  pub read : AllRead names catalogue.passed_over.items
  pub passed : audit.passed_over ≡ catalogue.passed_over
  pub bounded : audit.bounds ≡ bounds
  pub ruled : IsRuledWidest had catalogue.archive bounds texts audit.warnings.items audit.rulings.items
