-- What files answer to a certificate.
use Rattle.std.specs.Prelude.{◌≡◌, ⊤, ℕ, List, Result, Ok, Err}
use Rattle.causal_order.specs.declared.certificate.Certificate.{Certificate as Claim}
use Rattle.causal_order.specs.declared.fault.CertificateFault.{CertificateFault}
use Rattle.open_volume.specs.declared.volume.VolumeSoFar.{VolumeSoFar}
use Rattle.book_rules.specs.NextHead.{AreLegal}
use Rattle.attribution.specs.declared.verdict.Verdict.TheVariants.{Accepted, Certificate}
use Rattle.attribution.specs.Snapshot.{IsTrueInRunsThatBeginSo}
use Rattle.pair_judgement.specs.declared.judging.Judgement.{Judgement}
use Rattle.pair_judgement.specs.declared.judging.Judgement.TheVariants.{Verdict}
use Rattle.journal_archive.specs.declared.pair_lookup.VolumePair.{VolumePair}
use Rattle.journal_archive.specs.declared.archive.Archive.{Archive}
use Rattle.journal_archive.specs.declared.pair.PairJournals.{PairJournals}
use Rattle.journal_archive.specs.Shown.{read_of}
use Rattle.archive_files.specs.Showing.{IsCopyOf, AreShownBy, IsShownAt, AreClosed, AreBorneOut}
use Rattle.archive_files.specs.declared.showing.ShownJournals.TheVariants.{Journals as ShownJournals, Lacking as ShownLacking}
use Rattle.attribution_desk.specs.Judgements.{IsJudgementOfJournals}
use Rattle.attribution_desk.specs.Batch.{AreRuled}
use Rattle.archive_desk.specs.declared.judging.ArchiveJudgement.{ArchiveJudgement}
use Rattle.archive_desk.specs.declared.judging.ArchiveJudgement.TheVariants.{Ruled, Faulty, Lacking}

-- The desk's ruling over the journals that the pair of volumes shows which shows where the interval begins; or which
-- side lacks that, and why.
abbrev pub IsJudgedAt : (had : ℕ → List ℕ → Type 0) → Archive → (skew transit : ℕ) → Claim → ArchiveJudgement → Type 0
IsJudgedAt had archive skew transit claim (Ruled pair ruling) =
    (shown : PairJournals) × IsShownAt had archive skew transit claim.from (ShownJournals pair shown)
    × IsJudgementOfJournals shown.primary shown.secondary skew transit claim ruling
IsJudgedAt had archive skew transit claim (Lacking side lack) =
    IsShownAt had archive skew transit claim.from (ShownLacking side lack)
IsJudgedAt had archive skew transit claim (Faulty ruling) = ⊥

-- a fault of its text before that
abbrev pub IsJudged : (had : ℕ → List ℕ → Type 0) → Archive → (skew transit : ℕ) → Result Claim CertificateFault
    → ArchiveJudgement → Type 0
IsJudged had archive skew transit (Ok claim) judged = IsJudgedAt had archive skew transit claim judged
IsJudged had archive skew transit (Err fault) judged = judged ≡ Faulty (Verdict (Certificate fault))

-- true in every run in which each of the two volumes begins with what its file had of it
abbrev pub IsTrueOfFiles : (had : ℕ → List ℕ → Type 0) → (skew transit : ℕ) → Claim → ArchiveJudgement → Type 0
IsTrueOfFiles had skew transit claim (Ruled pair ruling) =
    (v : VolumeSoFar) × (w : VolumeSoFar) × IsCopyOf (had pair.primary.file) pair.primary v
    × IsCopyOf (had pair.secondary.file) pair.secondary w
    × IsTrueInRunsThatBeginSo AreLegal (read_of v.journal w.journal) skew transit claim
IsTrueOfFiles had skew transit claim _ = ⊥

abbrev pub Accepts : ArchiveJudgement → Type 0
Accepts (Ruled pair ruling) = ruling ≡ Verdict Accepted
Accepts _ = ⊥

-- what is accepted is
abbrev pub AcceptedIsTrue : (had : ℕ → List ℕ → Type 0) → (skew transit : ℕ) → Claim → ArchiveJudgement → Type 0
AcceptedIsTrue had skew transit claim judged = Accepts judged → IsTrueOfFiles had skew transit claim judged

abbrev pub AcceptedClaimIsTrue : (had : ℕ → List ℕ → Type 0) → (skew transit : ℕ) → Result Claim CertificateFault
    → ArchiveJudgement → Type 0
AcceptedClaimIsTrue had skew transit (Ok claim) judged = AcceptedIsTrue had skew transit claim judged
AcceptedClaimIsTrue had skew transit (Err fault) judged = ⊤

-- ---- many certificates over one pair of volumes

-- on each of their texts its ruling, over two journals
abbrev pub IsRuledByShown : PairJournals → (skew transit : ℕ) → List (List ℕ) → List Judgement → Type 0
IsRuledByShown shown skew transit texts rulings =
    AreRuled (Ok shown.primary) (Ok shown.secondary) skew transit texts rulings

-- over the journals that the two volumes show, which agree with the volumes beside them
abbrev pub AreRuledOver : (had : ℕ → List ℕ → Type 0) → Archive → VolumePair → (skew transit : ℕ) → List (List ℕ)
    → List Judgement → Type 0
AreRuledOver had archive pair skew transit texts rulings =
    (shown : PairJournals) × AreShownBy had pair shown × AreClosed shown × AreBorneOut had archive pair
    × IsRuledByShown shown skew transit texts rulings
