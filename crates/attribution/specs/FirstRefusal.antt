-- What the auditor answers: that it accepts, or the refusal of the first condition that isn't met, C4 to C11, with the
-- number or line that it names.
use Rattle.std.specs.Prelude.{◌≡◌, ℕ, ◌+◌, ◌<◌, ◌≤◌, ◌⊎◌, List, [], ◌∷◌, length, slice_get, Some, All, zero, suc}
use Rattle.journal_lines.specs.declared.event.Lease.{Lease}
use Rattle.causal_order.specs.declared.reference.Ref.{Ref}
use Rattle.causal_order.specs.Journals.{Journals}
use Rattle.causal_order.specs.LineOrder.{IsLeast}
use Rattle.causal_order.specs.declared.certificate.Certificate.{Certificate}
use Rattle.causal_order.specs.declared.certificate.Piece.{Piece}
use Rattle.causal_order.specs.declared.certificate.Foreign.{Foreign}
use Rattle.attribution.specs.declared.condition.TheConstants.{CONDITIONS}
use Rattle.attribution.specs.declared.condition.Condition.{Condition}
use Rattle.attribution.specs.declared.condition.Condition.TheVariants.{Moment, Shown, Tiled, Granted, Opened}
use Rattle.attribution.specs.declared.condition.Condition.TheVariants.{Discharged, Covered, Reasoned}
use Rattle.attribution.specs.declared.verdict.Verdict.{Verdict}
use Rattle.attribution.specs.declared.verdict.Verdict.TheVariants.{Accepted, EmptyInterval, PastEnd, PieceGap}
use Rattle.attribution.specs.declared.verdict.Verdict.TheVariants.{PieceGrant, BeforeOpen, PieceRelease, Uncovered}
use Rattle.attribution.specs.declared.verdict.Verdict.TheVariants.{Reason}
use Rattle.attribution.specs.declared.delegation.Delegation.{Delegation}
use Rattle.attribution.specs.Delegation.{of_lease}
use Rattle.attribution.specs.Acceptance.{Grants, GivesBack, IsGranted, Discharges, IsDischarged, IsPastOpen, IsForeign}
use Rattle.attribution.specs.Acceptance.{IsNamed, IsCovered, ReasonHolds, Reaches, IsAccepted}

-- P holds of each item before index k
abbrev pub HoldsBefore : {X : Type 0} → (X → Type 0) → List X → ℕ → Type 0
HoldsBefore {X} P xs k = (j : ℕ) (y : X) → j < k → slice_get xs j ≡ Some y → P y

-- x stands at index k, and is the first item of which P does not hold
abbrev pub IsFirstNot : {X : Type 0} → (X → Type 0) → List X → ℕ → X → Type 0
IsFirstNot P xs k x = (slice_get xs k ≡ Some x) × (P x → ⊥) × HoldsBefore P xs k

-- where the piece at index k must begin: at `from`, or where the piece before it ends
abbrev pub begin_at : ℕ → List Piece → ℕ → ℕ
begin_at from ps zero = from
begin_at from [] (suc k) = from
begin_at from (p ∷ ps) (suc k) = begin_at p.to ps k

-- C6: the piece at index k begins where it must and has positive length; past the last piece, one or more end at `to`
abbrev pub IsInPlace : Certificate → ℕ → Type 0
IsInPlace c k =
    ((p : Piece) × (slice_get c.pieces k ≡ Some p) × (p.from ≡ begin_at c.from c.pieces k) × (p.from < p.to))
    ⊎ ((k ≡ length c.pieces) × (0 < k) × (begin_at c.from c.pieces k ≡ c.to))

abbrev pub IsTiled : Certificate → Type 0
IsTiled c = (k : ℕ) → k ≤ length c.pieces → IsInPlace c k

-- pieces are counted from 1
abbrev pub IsGap : Certificate → ℕ → Type 0
IsGap c n = (k : ℕ) × (n ≡ k + 1) × (k ≤ length c.pieces) × (IsInPlace c k → ⊥) × ((j : ℕ) → j < k → IsInPlace c j)

-- C8: the release gives back what the piece's grant gave, and no entry discharges it
abbrev pub CutsShort : Journals → ℕ → Piece → Ref → Type 0
CutsShort js skew p r = (g : Lease) × Grants js p.grant g × GivesBack js r (of_lease g) × (Discharges js skew p r → ⊥)

-- C9: another client's delegation touches the prefix, and no foreign entry names the line that tells of it
abbrev pub IsUncovered : Journals → Certificate → Ref → Type 0
IsUncovered js c r = (d : Delegation) × IsForeign js c r d × (IsNamed c r → ⊥)

-- ---- the conditions, and the refusal of each

-- what each condition asks
abbrev pub IsMet : Journals → (skew transit : ℕ) → Certificate → Condition → Type 0
IsMet js skew transit c Moment = c.from < c.to
IsMet js skew transit c (Shown side) = Reaches js skew c side
IsMet js skew transit c Tiled = IsTiled c
IsMet js skew transit c Granted = All (IsGranted js skew transit c) c.pieces
IsMet js skew transit c Opened = IsPastOpen js skew transit c
IsMet js skew transit c Discharged = All (IsDischarged js skew) c.pieces
IsMet js skew transit c Covered = IsCovered js c
IsMet js skew transit c Reasoned = All (ReasonHolds js skew transit c) c.foreign

-- Which verdict refuses where it isn't met. A piece is named by its number from 1; of lines the least is, of entries
-- the first.
abbrev pub Refuses : Journals → (skew transit : ℕ) → Certificate → Condition → Verdict → Type 0
Refuses js skew transit c Moment v = (v ≡ EmptyInterval) × (c.from < c.to → ⊥)
Refuses js skew transit c (Shown side) v = (v ≡ PastEnd side) × (Reaches js skew c side → ⊥)
Refuses js skew transit c Tiled v = (n : ℕ) × (v ≡ PieceGap n) × IsGap c n
Refuses js skew transit c Granted v =
    (n : ℕ) × (v ≡ PieceGrant n)
    × ((k : ℕ) × (p : Piece) × (n ≡ k + 1) × IsFirstNot (IsGranted js skew transit c) c.pieces k p)
Refuses js skew transit c Opened v = (v ≡ BeforeOpen) × (IsPastOpen js skew transit c → ⊥)
Refuses js skew transit c Discharged v =
    (n : ℕ) × (r : Ref) × (v ≡ PieceRelease n r)
    × ((k : ℕ) × (p : Piece) × (n ≡ k + 1) × (slice_get c.pieces k ≡ Some p)
    × HoldsBefore (IsDischarged js skew) c.pieces k × IsLeast (CutsShort js skew p) r)
Refuses js skew transit c Covered v = (r : Ref) × (v ≡ Uncovered r) × IsLeast (IsUncovered js c) r
Refuses js skew transit c Reasoned v =
    (r : Ref) × (v ≡ Reason r)
    × ((k : ℕ) × (f : Foreign) × (f.grant ≡ r) × IsFirstNot (ReasonHolds js skew transit c) c.foreign k f)

-- the first of these conditions that isn't met refuses; where all are met the certificate is accepted
abbrev pub IsVerdictBy : Journals → (skew transit : ℕ) → Certificate → List Condition → Verdict → Type 0
IsVerdictBy js skew transit c [] v = v ≡ Accepted
IsVerdictBy js skew transit c (k ∷ ks) v =
    Refuses js skew transit c k v ⊎ (IsMet js skew transit c k × IsVerdictBy js skew transit c ks v)

-- The verdict on the certificate.
abbrev pub IsVerdict : Journals → (skew transit : ℕ) → Certificate → Verdict → Type 0
IsVerdict js skew transit c v = IsVerdictBy js skew transit c CONDITIONS v

-- ---- laws of verdicts

-- the verdict is that it accepts exactly where the certificate is accepted
abbrev pub AcceptsTheAccepted : Type 0
AcceptsTheAccepted = (js : Journals) (skew transit : ℕ) (c : Certificate)
    → (IsVerdict js skew transit c Accepted → IsAccepted js skew transit c)
    × (IsAccepted js skew transit c → IsVerdict js skew transit c Accepted)

-- there is no second verdict on a certificate
abbrev pub OneVerdict : Type 0
OneVerdict = (js : Journals) (skew transit : ℕ) (c : Certificate) (v w : Verdict)
    → IsVerdict js skew transit c v → IsVerdict js skew transit c w → v ≡ w
