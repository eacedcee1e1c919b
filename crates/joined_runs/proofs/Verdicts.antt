-- A certificate that is accepted over the journals that volumes are together is true over the volumes.
use Rattle.std.specs.Prelude.{◌≡◌, ℕ}
use Rattle.std.proofs.Common.{subst}
use Rattle.book_rules.specs.NextHead.{AreLegal}
use Rattle.causal_order.specs.Journals.{Journals}
use Rattle.causal_order.specs.declared.certificate.Certificate.{Certificate}
use Rattle.attribution.specs.declared.verdict.Verdict.TheVariants.{Accepted}
use Rattle.attribution.specs.Acceptance.{IsAccepted}
use Rattle.attribution.specs.FirstRefusal.{IsVerdict, AcceptsTheAccepted}
use Rattle.attribution.specs.Snapshot.{snapshots}
use Rattle.joined_runs.specs.Volumes.{PairVolumes, joined_journals, BothHaveRoom}
use Rattle.joined_runs.specs.Laws.{IsTrueOverVolumes, IsTrueOverVolumesSoFar}
use Rattle.joined_runs.specs.Laws.{AcceptedIsTrueOverVolumes, SnapshotsAreTrueOverVolumes}

pub over_joined : AcceptsTheAccepted → AcceptedIsTrueOverVolumes AreLegal
    → (js : Journals) (skew transit : ℕ) (c : Certificate) → IsVerdict js skew transit c Accepted
    → (vs : PairVolumes) → BothHaveRoom vs → js ≡ joined_journals vs → IsTrueOverVolumes AreLegal vs skew transit c
over_joined accepts law js skew transit c verdict vs room are =
    law vs skew transit c room
    (subst (λ (z : Journals). IsAccepted z skew transit c) are ((accepts js skew transit c).0 verdict))

pub over_begun : AcceptsTheAccepted → SnapshotsAreTrueOverVolumes AreLegal
    → (js : Journals) (skew transit : ℕ) (c : Certificate) → IsVerdict js skew transit c Accepted
    → (vs : PairVolumes) → BothHaveRoom vs → js ≡ snapshots (joined_journals vs)
    → IsTrueOverVolumesSoFar AreLegal vs skew transit c
over_begun accepts law js skew transit c verdict vs room are =
    law vs skew transit c room
    (subst (λ (z : Journals). IsAccepted z skew transit c) are ((accepts js skew transit c).0 verdict))
