-- What files answer to certificates, and how it is written.
use Rattle.std.specs.Prelude.{◌≡◌, ⊤, ℕ, List, [], ◌∷◌, ◌++◌, ◌==◌, if◌then◌else◌}
use Rattle.std.specs.declared.path.buf.PathBuf.{PathBuf}
use Rattle.certificate.specs.Faults.{certificate_of}
use Rattle.pair_judgement.specs.Judgements.{judgement_line, status_of as ruling_status}
use Rattle.journal_archive.specs.declared.archive.Archive.{Archive}
use Rattle.attribution_desk.specs.Batch.{AreTexts}
use Rattle.archive_desk.specs.declared.coverage_gaps.TimingBounds.{TimingBounds}
use Rattle.archive_desk.specs.declared.judging.ArchiveJudgement.{ArchiveJudgement}
use Rattle.archive_desk.specs.declared.judging.ArchiveJudgement.TheVariants.{Ruled, Faulty, Lacking}
use Rattle.archive_desk.specs.declared.certificates.JudgedAnswer.{JudgedAnswer}
use Rattle.archive_desk.specs.declared.waiting.PendingState.TheVariants.{Judged as IsJudgedAs}
use Rattle.archive_desk.specs.declared.waiting.PendingCertificate.{PendingCertificate as WaitingValue}
use Rattle.archive_desk.specs.declared.command_output.CommandOutput.{CommandOutput}
use Rattle.archive_desk.specs.Names.{journals_line}
use Rattle.archive_desk.specs.CoverageGaps.{BeginsWith, lack_front}
use Rattle.archive_desk.specs.CommandOutputs.{Said, said_of, noted_first}
use Rattle.archive_desk.specs.Judging.{IsJudged, AcceptedClaimIsTrue}
use Rattle.archive_desk.specs.Warnings.{AreWarnings, warned_all}

-- each is judged, and what is accepted is true
abbrev pub AreJudged : (had : ℕ → List ℕ → Type 0) → Archive → (skew transit : ℕ) → (texts : List (List ℕ))
    → List ArchiveJudgement → Type 0
AreJudged had archive skew transit [] [] = ⊤
AreJudged had archive skew transit (text ∷ texts) (judged ∷ js) =
    IsJudged had archive skew transit (certificate_of text) judged
    × AcceptedClaimIsTrue had skew transit (certificate_of text) judged
    × AreJudged had archive skew transit texts js
AreJudged had archive skew transit [] (judged ∷ js) = ⊥
AreJudged had archive skew transit (text ∷ texts) [] = ⊥

-- by these bounds, with the warnings on the pairs of volumes
pub record AreRuledAnew (had : ℕ → List ℕ → Type 0) (archive : Archive) (bounds : TimingBounds)
    (texts : List (List ℕ)) (answer : JudgedAnswer) : Type 0 where
  pub bounded : answer.bounds ≡ bounds
  pub warned : AreWarnings had bounds.skew bounds.transit answer.warnings.items
  pub judged : AreJudged had archive bounds.skew bounds.transit texts answer.judged.items

-- a file's one certificate
abbrev pub IsAudit : (had : ℕ → List ℕ → Type 0) → Archive → List ℕ → TimingBounds → JudgedAnswer → Type 0
IsAudit had archive text bounds answer = AreRuledAnew had archive bounds (text ∷ []) answer

-- a file's certificates, one after another
abbrev pub IsBatch : (had : ℕ → List ℕ → Type 0) → Archive → List ℕ → TimingBounds → JudgedAnswer → Type 0
IsBatch had archive rest bounds answer =
    (texts : List (List ℕ)) × AreTexts rest texts × AreRuledAnew had archive bounds texts answer

-- For bodies only: what was judged of each of those that waited.
abbrev pub AreTaken : List WaitingValue → List ArchiveJudgement → Type 0
AreTaken [] [] = ⊤
AreTaken (w ∷ ws) (judged ∷ js) = (w.pending ≡ IsJudgedAs judged) × AreTaken ws js
AreTaken [] (judged ∷ js) = ⊥
AreTaken (w ∷ ws) [] = ⊥

-- ---- how it is written

-- the line of the ruling, or what is lacking
abbrev pub line_of : ArchiveJudgement → List ℕ
line_of (Ruled pair ruling) = judgement_line ruling
line_of (Faulty ruling) = judgement_line ruling
line_of (Lacking side lack) = lack_front side lack ++ 10 ∷ []

abbrev pub status_of : ArchiveJudgement → ℕ
status_of (Ruled pair ruling) = ruling_status ruling
status_of (Faulty ruling) = ruling_status ruling
status_of (Lacking side lack) = 1

-- over which two files it was judged; or what is lacking, by its name
abbrev pub IsNotedOf : {A : Type 0} → List (PathBuf A) → ArchiveJudgement → List ℕ → Type 0
IsNotedOf names (Ruled pair ruling) notes = notes ≡ journals_line names pair
IsNotedOf names (Faulty ruling) notes = notes ≡ []
IsNotedOf names (Lacking side lack) notes = BeginsWith (lack_front side lack) notes

-- one certificate more
pub record IsJudgedMore {A : Type 0} (names : List (PathBuf A)) (judged : ArchiveJudgement) (before after : Said) : Type 0 where
  pub text : after.text ≡ before.text ++ line_of judged
  pub status : after.status ≡ (if status_of judged == 0 then before.status else 1)
  pub noted : List ℕ
  pub is_noted : IsNotedOf names judged noted
  pub notes : after.notes ≡ before.notes ++ noted

-- one behind the other
abbrev pub AreSaid : {A : Type 0} → List (PathBuf A) → List ArchiveJudgement → (before after : Said) → Type 0
AreSaid names [] before after = after ≡ before
AreSaid names (judged ∷ js) before after =
    (mid : Said) × IsJudgedMore names judged before mid × AreSaid names js mid after

-- behind the warnings on the pairs of volumes
abbrev pub IsJudgedTold : {A : Type 0} → List (PathBuf A) → JudgedAnswer → CommandOutput → Type 0
IsJudgedTold names answer told =
    AreSaid names answer.judged.items (noted_first (warned_all names answer.warnings.items)) (said_of told)
