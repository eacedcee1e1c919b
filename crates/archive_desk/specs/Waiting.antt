-- Certificates on their way to their verdicts.
use Rattle.std.specs.Prelude.{◌≡◌, ℕ, List, map, Result, Ok, Err, Some, slice_get}
use Rattle.causal_order.specs.declared.certificate.Certificate.{Certificate as Claim}
use Rattle.causal_order.specs.declared.fault.CertificateFault.{CertificateFault}
use Rattle.certificate.specs.Faults.{certificate_of}
use Rattle.attribution.specs.declared.verdict.Verdict.TheVariants.{Certificate}
use Rattle.pair_judgement.specs.declared.judging.Judgement.TheVariants.{Verdict}
use Rattle.journal_archive.specs.declared.pair_lookup.VolumePair.{VolumePair}
use Rattle.journal_archive.specs.declared.pair_lookup.PairLookup.TheVariants.{Shown as IsPair, Lacking as IsLacking}
use Rattle.journal_archive.specs.PairLookups.{IsPairLookup}
use Rattle.journal_archive.specs.declared.archive.Archive.{Archive}
use Rattle.archive_desk.specs.declared.judging.ArchiveJudgement.TheVariants.{Faulty, Lacking}
use Rattle.archive_desk.specs.declared.waiting.PendingState.{PendingState}
use Rattle.archive_desk.specs.declared.waiting.PendingState.TheVariants.{Shown, Judged}
use Rattle.archive_desk.specs.declared.waiting.PendingCertificate.{PendingCertificate as WaitingValue}
use Rattle.archive_desk.specs.declared.waiting.Member.{Member}
use Rattle.archive_desk.specs.Judging.{IsJudged, AcceptedClaimIsTrue}

-- ---- before any file is read

-- the pair of volumes that shows the moment, or what is lacking
abbrev pub IsPlacedAt : Archive → (skew transit moment : ℕ) → PendingState → Type 0
IsPlacedAt archive skew transit moment (Shown pair) =
    IsPairLookup archive.primary archive.secondary skew transit moment (IsPair pair)
IsPlacedAt archive skew transit moment (Judged (Lacking side lack)) =
    IsPairLookup archive.primary archive.secondary skew transit moment (IsLacking side lack)
IsPlacedAt archive skew transit moment (Judged _) = ⊥

-- of the moment where a certificate's interval begins; or the fault of its text
abbrev pub IsPlaced : Archive → (skew transit : ℕ) → Result Claim CertificateFault → PendingState → Type 0
IsPlaced archive skew transit (Ok claim) pending = IsPlacedAt archive skew transit claim.from pending
IsPlaced archive skew transit (Err fault) pending = pending ≡ Judged (Faulty (Verdict (Certificate fault)))

abbrev pub ArePlaced : Archive → (skew transit : ℕ) → List WaitingValue → Type 0
ArePlaced archive skew transit ws = (k : ℕ) (w : WaitingValue) → slice_get ws k ≡ Some w
    → IsPlaced archive skew transit (certificate_of w.text.now) w.pending

abbrev pub texts_waiting : List WaitingValue → List (List ℕ)
texts_waiting ws = map (λ w. w.text.now) ws

-- where some stand that the pair of volumes shows, and their texts
abbrev pub AreMembers : List WaitingValue → VolumePair → List Member → Type 0
AreMembers ws pair ms = (i : ℕ) (m : Member) → slice_get ms i ≡ Some m
    → (w : WaitingValue) × (slice_get ws m.place ≡ Some w) × (w.text.now ≡ m.text.now) × (w.pending ≡ Shown pair)

abbrev pub texts_among : List Member → List (List ℕ)
texts_among ms = map (λ m. m.text.now) ms

-- ---- as some are judged

-- the pair of volumes that shows where its interval begins; or it's judged, and what is accepted is true
abbrev pub IsPending : (had : ℕ → List ℕ → Type 0) → Archive → (skew transit : ℕ) → Result Claim CertificateFault
    → PendingState → Type 0
IsPending had archive skew transit certificate (Shown pair) = IsPlaced archive skew transit certificate (Shown pair)
IsPending had archive skew transit certificate (Judged judged) =
    IsJudged had archive skew transit certificate judged × AcceptedClaimIsTrue had skew transit certificate judged

abbrev pub AreWaiting : (had : ℕ → List ℕ → Type 0) → Archive → (skew transit : ℕ) → List WaitingValue → Type 0
AreWaiting had archive skew transit ws = (k : ℕ) (w : WaitingValue) → slice_get ws k ≡ Some w
    → IsPending had archive skew transit (certificate_of w.text.now) w.pending
