-- Which comparison a refusal rests on, with its numbers.
use Rattle.std.specs.Prelude.{◌≡◌, ℕ, ◌+◌, ◌<◌, ◌≤◌, Option, Some, None, option_map, slice_get}
use Rattle.binding_rules.specs.declared.role.Role.{Role}
use Rattle.binding_rules.specs.declared.role.Role.TheVariants.{Primary, Secondary}
use Rattle.binding_rules.specs.Role.{partner_of}
use Rattle.journal_lines.specs.declared.line.Line.{Line}
use Rattle.causal_order.specs.declared.certificate.Certificate.{Certificate}
use Rattle.causal_order.specs.declared.certificate.Piece.{Piece}
use Rattle.causal_order.specs.declared.certificate.Foreign.{Foreign}
use Rattle.causal_order.specs.Journals.{Journals, journal_of, open_of, Names}
use Rattle.attribution.specs.declared.condition.Condition.{Condition}
use Rattle.attribution.specs.declared.condition.Condition.TheVariants.{Moment, Shown, Tiled, Granted, Opened}
use Rattle.attribution.specs.declared.condition.Condition.TheVariants.{Discharged, Covered, Reasoned}
use Rattle.attribution.specs.declared.verdict.Verdict.{Verdict}
use Rattle.attribution.specs.declared.verdict.Verdict.TheVariants.{Accepted, EmptyInterval, PastEnd, PieceGap}
use Rattle.attribution.specs.declared.verdict.Verdict.TheVariants.{PieceGrant}
use Rattle.attribution.specs.declared.verdict.Verdict.TheVariants.{BeforeOpen, PieceRelease, Uncovered, Reason}
use Rattle.attribution.specs.Acceptance.{HasEarlier, IsGrantedAfterOpen, IsForeign, IsNamed, ReasonHolds}
use Rattle.attribution.specs.FirstRefusal.{IsFirstNot, begin_at, IsInPlace, CutsShort}
use Rattle.auditor.specs.Closing.{ClosesAt}
use Rattle.evidence_report.specs.declared.report.SideReport.{SideReport}
use Rattle.evidence_report.specs.declared.report.Report.{Report}
use Rattle.evidence_report.specs.declared.faults.PieceFault.{PieceFault}
use Rattle.evidence_report.specs.declared.faults.ForeignFault.{ForeignFault}
use Rattle.evidence_report.specs.declared.faults.Failure.{Failure}
use Rattle.evidence_report.specs.declared.faults.Failure.TheVariants.{EmptyInterval as NoMoment, PastEnd as EndsPast}
use Rattle.evidence_report.specs.declared.faults.Failure.TheVariants.{PieceGap as Gap, PieceGrant as Uncarried}
use Rattle.evidence_report.specs.declared.faults.Failure.TheVariants.{BeforeOpen as BeginsBefore, PieceBeforeOpen}
use Rattle.evidence_report.specs.declared.faults.Failure.TheVariants.{PieceRelease as CutShort, Uncovered as Unnamed}
use Rattle.evidence_report.specs.declared.faults.Failure.TheVariants.{Reason as Unreasoned}
use Rattle.evidence_report.specs.Faults.{FailsPiece, FailsForeign}

-- ---- earlier volumes

-- the side has some, and their answers had surely reached their clients only later than the interval's beginning
abbrev pub IsOpenedLate : Journals → (skew transit : ℕ) → Certificate → Role → (needed from : ℕ) → Type 0
IsOpenedLate js skew transit c side needed from =
    HasEarlier js side
    × ((l : Line) × Names js (open_of side) l × (needed ≡ l.reading + skew + transit) × (from ≡ c.from)
    × (from < needed))

-- the partner of the server that granted the piece has some, and the grant isn't shown to have come behind them
abbrev pub IsBeforeOpen : Journals → ℕ → Piece → Role → Type 0
IsBeforeOpen js skew p side =
    (side ≡ partner_of p.grant.side) × HasEarlier js side × (IsGrantedAfterOpen js skew p side → ⊥)

abbrev pub IsOpenFailure : Journals → (skew transit : ℕ) → Certificate → Failure → Type 0
IsOpenFailure js skew transit c (BeginsBefore side needed from) = IsOpenedLate js skew transit c side needed from
IsOpenFailure js skew transit c (PieceBeforeOpen number side) =
    (k : ℕ) × (p : Piece) × (number ≡ k + 1) × (slice_get c.pieces k ≡ Some p) × IsBeforeOpen js skew p side
IsOpenFailure js skew transit c _ = ⊥

-- ---- refusals

-- where a piece begins and ends
abbrev pub span_of : Piece → ℕ × ℕ
span_of p = (p.from, p.to)

-- The failure is that of the refusal: the same side, number and line, the sums of the definitions, and the comparison
-- fails.
abbrev pub IsFailure : Journals → (skew transit : ℕ) → Certificate → Verdict → Failure → Type 0
IsFailure js skew transit c EmptyInterval (NoMoment from to) = (from ≡ c.from) × (to ≡ c.to) × (to ≤ from)
IsFailure js skew transit c (PastEnd side) (EndsPast at needed closed) =
    (at ≡ side) × (needed ≡ c.to + skew) × ClosesAt (journal_of js side) closed × (closed < needed)
IsFailure js skew transit c (PieceGap n) (Gap number must piece) =
    (number ≡ n)
    × ((k : ℕ) × (n ≡ k + 1) × (must ≡ begin_at c.from c.pieces k) × (piece ≡ option_map span_of (slice_get c.pieces k))
    × (IsInPlace c k → ⊥))
IsFailure js skew transit c (PieceGrant n) (Uncarried number fault) =
    (number ≡ n)
    × ((k : ℕ) × (p : Piece) × (n ≡ k + 1) × (slice_get c.pieces k ≡ Some p) × FailsPiece js skew transit c p fault)
IsFailure js skew transit c BeforeOpen failure = IsOpenFailure js skew transit c failure
IsFailure js skew transit c (PieceRelease n r) (CutShort number release) =
    (number ≡ n) × (release ≡ r)
    × ((k : ℕ) × (p : Piece) × (n ≡ k + 1) × (slice_get c.pieces k ≡ Some p) × CutsShort js skew p r)
IsFailure js skew transit c (Uncovered r) (Unnamed at delegation) =
    (at ≡ r) × IsForeign js c r delegation × (IsNamed c r → ⊥)
IsFailure js skew transit c (Reason r) (Unreasoned at fault) =
    (at ≡ r)
    × ((k : ℕ) × (f : Foreign) × (slice_get c.foreign k ≡ Some f) × (f.grant ≡ r)
    × FailsForeign js skew transit c f fault)
IsFailure js skew transit c _ _ = ⊥

-- the condition of a certificate that a verdict refuses by
abbrev pub condition_of : Verdict → Option Condition
condition_of EmptyInterval = Some Moment
condition_of (PastEnd side) = Some (Shown side)
condition_of (PieceGap n) = Some Tiled
condition_of (PieceGrant n) = Some Granted
condition_of BeforeOpen = Some Opened
condition_of (PieceRelease n r) = Some Discharged
condition_of (Uncovered r) = Some Covered
condition_of (Reason r) = Some Reasoned
condition_of _ = None

-- none where the certificate is accepted
abbrev pub IsFailureOf : Journals → (skew transit : ℕ) → Certificate → Verdict → Option Failure → Type 0
IsFailureOf js skew transit c v None = v ≡ Accepted
IsFailureOf js skew transit c v (Some failure) = IsFailure js skew transit c v failure

-- ---- for bodies

abbrev pub side_in : Report → Role → SideReport
side_in shown Primary = shown.primary
side_in shown Secondary = shown.secondary

-- the failure says why the grant doesn't carry the piece of this number
abbrev pub IsUncarried : Journals → (skew transit : ℕ) → Certificate → Piece → ℕ → Failure → Type 0
IsUncarried js skew transit c p n failure =
    (fault : PieceFault) × (failure ≡ Uncarried n fault) × FailsPiece js skew transit c p fault

-- it says why the reason of the first entry doesn't hold, of those whose reason doesn't
abbrev pub IsUnreasoned : Journals → (skew transit : ℕ) → Certificate → Failure → Type 0
IsUnreasoned js skew transit c failure =
    (k : ℕ) × (f : Foreign) × (fault : ForeignFault) × (failure ≡ Unreasoned f.grant fault)
    × IsFirstNot (ReasonHolds js skew transit c) c.foreign k f × FailsForeign js skew transit c f fault
