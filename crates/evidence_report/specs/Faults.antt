-- Why a grant doesn't carry a piece, and why a foreign entry's reason doesn't hold: the first comparison that fails,
-- with its numbers. Each speaks of what `IsGranted` and `ReasonHolds` ask, in their order.
use Rattle.std.specs.Prelude.{◌≡◌, ◌≢◌, ℕ, ◌+◌, ◌*◌, ◌<◌, ◌≤◌, ◌⊎◌, IsTrue, Option, Some, None}
use Rattle.prefix_range.specs.Prefix.{Contains}
use Rattle.journal_lines.specs.declared.event.Lease.{Lease}
use Rattle.causal_order.specs.declared.reference.Ref.{Ref}
use Rattle.causal_order.specs.declared.certificate.Certificate.{Certificate}
use Rattle.causal_order.specs.declared.certificate.Piece.{Piece}
use Rattle.causal_order.specs.declared.certificate.Foreign.{Foreign}
use Rattle.causal_order.specs.declared.certificate.Reason.{Reason}
use Rattle.causal_order.specs.declared.certificate.Reason.TheVariants.{Early, Late, Released}
use Rattle.causal_order.specs.Journals.{Journals}
use Rattle.causal_order.specs.Order.{IsSurelyBefore, WrittenBy, WrittenFrom}
use Rattle.attribution.specs.declared.delegation.Delegation.{Delegation}
use Rattle.attribution.specs.declared.delegation.Lasting.{Lasting}
use Rattle.attribution.specs.declared.delegation.Lasting.TheVariants.{For, Until}
use Rattle.attribution.specs.Run.{infinity}
use Rattle.attribution.specs.Acceptance.{Grants, Tells, GivesBack, IsGranted, EndsBy, IsNew, ReasonHolds}
use Rattle.auditor.specs.Bounds.{IsReachedBy, IsHolders}
use Rattle.evidence_report.specs.declared.mark.LineReading.{LineReading}
use Rattle.evidence_report.specs.declared.mark.OrderReport.{OrderReport}
use Rattle.evidence_report.specs.declared.mark.OrderReport.TheVariants.{Chain, Clock}
use Rattle.evidence_report.specs.declared.faults.PieceFault.{PieceFault}
use Rattle.evidence_report.specs.declared.faults.PieceFault.TheVariants.{NoGrant, OtherClient, OtherPrefix, NoChainFrom}
use Rattle.evidence_report.specs.declared.faults.PieceFault.TheVariants.{BegunLate, NoChainTo, EndsEarly}
use Rattle.evidence_report.specs.declared.faults.ForeignFault.{ForeignFault}
use Rattle.evidence_report.specs.declared.faults.ForeignFault.TheVariants.{NoDelegation, NoChain, Endless, EndsLate}
use Rattle.evidence_report.specs.declared.faults.ForeignFault.TheVariants.{Carried, BeginsEarly, NotGivenBack}
use Rattle.evidence_report.specs.declared.faults.ForeignFault.TheVariants.{NotBehind}
use Rattle.evidence_report.specs.declared.faults.ForeignFault.TheVariants.{GivenBackLate}

-- ---- pieces

-- the piece's grant is of the holder's lease, of a prefix round the one asked of
abbrev pub IsOfHolder : Journals → Certificate → Piece → Type 0
IsOfHolder js c p = (g : Lease) × Grants js p.grant g × IsHolders g c

abbrev pub IsPieceFault : Journals → (skew transit : ℕ) → Certificate → Piece → PieceFault → Type 0
IsPieceFault js skew transit c p NoGrant = (g : Lease) → Grants js p.grant g → ⊥
IsPieceFault js skew transit c p (OtherClient client) =
    (g : Lease) × Grants js p.grant g × (client ≡ g.client) × (g.client ≢ c.holder)
IsPieceFault js skew transit c p (OtherPrefix prefix) =
    (g : Lease) × Grants js p.grant g × (g.client ≡ c.holder) × (prefix ≡ g.prefix) × (Contains g.prefix c.prefix → ⊥)
IsPieceFault js skew transit c p NoChainFrom = IsOfHolder js c p × ((x : ℕ) → WrittenBy js p.latest p.grant x → ⊥)
IsPieceFault js skew transit c p (BegunLate begun from) =
    IsOfHolder js c p
    × ((x : ℕ) × WrittenBy js p.latest p.grant x × (begun ≡ x + skew + transit) × (from ≡ p.from) × (from < begun))
IsPieceFault js skew transit c p NoChainTo =
    IsOfHolder js c p × IsReachedBy js p.latest p.grant skew transit p.from
    × ((x : ℕ) → WrittenFrom js p.earliest p.grant x → ⊥)
IsPieceFault js skew transit c p (EndsEarly needed shown) =
    (g : Lease) × Grants js p.grant g × IsHolders g c × IsReachedBy js p.latest p.grant skew transit p.from
    × (g.valid ≢ infinity)
    × ((x : ℕ) × WrittenFrom js p.earliest p.grant x × (needed ≡ p.to + skew) × (shown ≡ x + 1000 * g.valid)
    × (shown < needed))

-- the grant doesn't carry the piece, and this is why
abbrev pub FailsPiece : Journals → (skew transit : ℕ) → Certificate → Piece → PieceFault → Type 0
FailsPiece js skew transit c p fault = IsPieceFault js skew transit c p fault × (IsGranted js skew transit c p → ⊥)

-- ---- foreign entries

-- what was told of at this reading has surely ended by this moment, and not before
abbrev pub IsEndOf : (skew transit reading : ℕ) → Lasting → ℕ → Type 0
IsEndOf skew transit reading (For seconds) ends =
    (seconds ≢ infinity) × (ends ≡ reading + skew + transit + 1000 * seconds)
IsEndOf skew transit reading (Until end) ends = ends ≡ end + skew + transit

abbrev pub IsReasonFault :
    Journals → (skew transit : ℕ) → Ref → Delegation → (from to : ℕ) → Reason → ForeignFault → Type 0
IsReasonFault js skew transit r d from to (Early chain) NoChain = (x : ℕ) → WrittenBy js chain r x → ⊥
IsReasonFault js skew transit r d from to (Early chain) Endless =
    ((x : ℕ) × WrittenBy js chain r x) × (d.lasting ≡ For infinity)
IsReasonFault js skew transit r d from to (Early chain) (EndsLate ends begun) =
    (x : ℕ) × WrittenBy js chain r x × IsEndOf skew transit x d.lasting ends × (begun ≡ from) × (begun < ends)
IsReasonFault js skew transit r d from to (Late chain) NoChain = (x : ℕ) → WrittenFrom js chain r x → ⊥
IsReasonFault js skew transit r d from to (Late chain) Carried =
    ((x : ℕ) × WrittenFrom js chain r x) × (IsNew d.lasting → ⊥)
IsReasonFault js skew transit r d from to (Late chain) (BeginsEarly needed shown) =
    IsNew d.lasting × WrittenFrom js chain r shown × (needed ≡ to + skew) × (shown < needed)
IsReasonFault js skew transit r d from to (Released release order chain) NoChain =
    (x : ℕ) → WrittenBy js chain release x → ⊥
IsReasonFault js skew transit r d from to (Released release order chain) NotGivenBack =
    ((x : ℕ) × WrittenBy js chain release x) × (GivesBack js release d → ⊥)
IsReasonFault js skew transit r d from to (Released release order chain) NotBehind =
    ((x : ℕ) × WrittenBy js chain release x) × GivesBack js release d × (IsSurelyBefore js skew order r release → ⊥)
IsReasonFault js skew transit r d from to (Released release order chain) (GivenBackLate given begun) =
    GivesBack js release d × IsSurelyBefore js skew order r release
    × ((x : ℕ) × WrittenBy js chain release x × (given ≡ x + skew) × (begun ≡ from) × (begun < given))
IsReasonFault js skew transit r d from to _ _ = ⊥

abbrev pub IsForeignFault : Journals → (skew transit : ℕ) → Certificate → Foreign → ForeignFault → Type 0
IsForeignFault js skew transit c f NoDelegation = (d : Delegation) → Tells js f.grant d → ⊥
IsForeignFault js skew transit c f fault =
    (d : Delegation) × Tells js f.grant d × IsReasonFault js skew transit f.grant d c.from c.to f.reason fault

-- the entry's reason doesn't hold, and this is why
abbrev pub FailsForeign : Journals → (skew transit : ℕ) → Certificate → Foreign → ForeignFault → Type 0
FailsForeign js skew transit c f fault =
    IsForeignFault js skew transit c f fault × (ReasonHolds js skew transit c f → ⊥)

-- ---- for bodies: the same of what is shown

abbrev pub IsHolderFault : Lease → Certificate → PieceFault → Type 0
IsHolderFault g c (OtherClient client) = (client ≡ g.client) × (g.client ≢ c.holder)
IsHolderFault g c (OtherPrefix prefix) =
    (g.client ≡ c.holder) × (prefix ≡ g.prefix) × (Contains g.prefix c.prefix → ⊥)
IsHolderFault g c _ = ⊥

abbrev pub BeginsBy : Option LineReading → (skew transit from : ℕ) → Type 0
BeginsBy None skew transit from = ⊥
BeginsBy (Some m) skew transit from = m.reading + skew + transit ≤ from

abbrev pub IsBeginFault : Option LineReading → (skew transit from : ℕ) → PieceFault → Type 0
IsBeginFault None skew transit from NoChainFrom = Unit {0}
IsBeginFault (Some m) skew transit from (BegunLate begun at) =
    (begun ≡ m.reading + skew + transit) × (at ≡ from) × (at < begun)
IsBeginFault _ skew transit from _ = ⊥

abbrev pub LastsBy : Option LineReading → (skew valid to : ℕ) → Type 0
LastsBy None skew valid to = ⊥
LastsBy (Some m) skew valid to = (valid ≡ infinity) ⊎ (to + skew ≤ m.reading + 1000 * valid)

abbrev pub IsEndFault : Option LineReading → (skew valid to : ℕ) → PieceFault → Type 0
IsEndFault None skew valid to NoChainTo = Unit {0}
IsEndFault (Some m) skew valid to (EndsEarly needed shown) =
    (valid ≢ infinity) × (needed ≡ to + skew) × (shown ≡ m.reading + 1000 * valid) × (shown < needed)
IsEndFault _ skew valid to _ = ⊥

abbrev pub IsEndless : Lasting → Type 0
IsEndless (For seconds) = seconds ≡ infinity
IsEndless (Until end) = ⊥

abbrev pub EarlyHolds : Option LineReading → Lasting → (skew transit from : ℕ) → Type 0
EarlyHolds None l skew transit from = ⊥
EarlyHolds (Some m) l skew transit from = EndsBy skew transit m.reading from l

abbrev pub IsEarlyFault : Option LineReading → Lasting → (skew transit from : ℕ) → ForeignFault → Type 0
IsEarlyFault None l skew transit from NoChain = Unit {0}
IsEarlyFault (Some m) l skew transit from Endless = IsEndless l
IsEarlyFault (Some m) l skew transit from (EndsLate ends begun) =
    IsEndOf skew transit m.reading l ends × (begun ≡ from) × (begun < ends)
IsEarlyFault _ l skew transit from _ = ⊥

abbrev pub LateHolds : Option LineReading → Lasting → (skew to : ℕ) → Type 0
LateHolds None l skew to = ⊥
LateHolds (Some m) l skew to = IsNew l × (to + skew ≤ m.reading)

abbrev pub IsLateFault : Option LineReading → Lasting → (skew to : ℕ) → ForeignFault → Type 0
IsLateFault None l skew to NoChain = Unit {0}
IsLateFault (Some m) l skew to Carried = IsNew l → ⊥
IsLateFault (Some m) l skew to (BeginsEarly needed shown) =
    IsNew l × (needed ≡ to + skew) × (shown ≡ m.reading) × (shown < needed)
IsLateFault _ l skew to _ = ⊥

abbrev pub IsOrdered : ℕ → OrderReport → Type 0
IsOrdered skew (Chain chain leads) = IsTrue leads
IsOrdered skew (Clock before (Some latest) after (Some earliest)) = latest.reading + skew + skew < earliest.reading
IsOrdered skew _ = ⊥

-- it was given back, by what is shown of the order and of the release
abbrev pub ReleasedHolds : Option LineReading → OrderReport → (gives_back : Type 0) → (skew from : ℕ) → Type 0
ReleasedHolds None order gives_back skew from = ⊥
ReleasedHolds (Some m) order gives_back skew from = gives_back × IsOrdered skew order × (m.reading + skew ≤ from)

abbrev pub IsReleasedFault : Option LineReading → OrderReport → (gives_back : Type 0) → (skew from : ℕ) → ForeignFault → Type 0
IsReleasedFault None order gives_back skew from NoChain = Unit {0}
IsReleasedFault (Some m) order gives_back skew from NotGivenBack = gives_back → ⊥
IsReleasedFault (Some m) order gives_back skew from NotBehind = gives_back × (IsOrdered skew order → ⊥)
IsReleasedFault (Some m) order gives_back skew from (GivenBackLate given begun) =
    gives_back × IsOrdered skew order × (given ≡ m.reading + skew) × (begun ≡ from) × (begun < given)
IsReleasedFault _ order gives_back skew from _ = ⊥
