-- What each condition of a certificate answers.
use Rattle.std.specs.Prelude.{◌≡◌, ◌≢◌, ℕ, ◌+◌, ◌≤◌, List, Option, Some, None, All, slice_get, Contains as Has}
use Rattle.prefix_range.specs.Prefix.{Overlaps}
use Rattle.causal_order.specs.declared.reference.Ref.{Ref}
use Rattle.causal_order.specs.Journals.{Journals}
use Rattle.causal_order.specs.declared.certificate.Certificate.{Certificate}
use Rattle.causal_order.specs.declared.certificate.Piece.{Piece}
use Rattle.causal_order.specs.declared.certificate.Clear.{Clear}
use Rattle.causal_order.specs.declared.certificate.Foreign.{Foreign}
use Rattle.attribution.specs.declared.delegation.Delegation.{Delegation}
use Rattle.attribution.specs.Acceptance.{GivesBack, IsCleared, IsGranted, Discharges, IsDischarged, ReasonHolds}
use Rattle.causal_order.specs.LineOrder.{ComesBefore, IsLeast}
use Rattle.attribution.specs.FirstRefusal.{HoldsBefore, IsFirstNot, CutsShort}

-- each piece is carried by its grant
abbrev pub AreGranted : Journals → (skew transit : ℕ) → Certificate → Type 0
AreGranted js skew transit c = All (IsGranted js skew transit c) c.pieces

-- n counts, from 1, the first piece that is not
abbrev pub IsUngranted : Journals → (skew transit : ℕ) → Certificate → ℕ → Type 0
IsUngranted js skew transit c n =
    (k : ℕ) × (p : Piece) × (n ≡ k + 1) × IsFirstNot (IsGranted js skew transit c) c.pieces k p

-- no release cuts a piece short
abbrev pub AreDischarged : Journals → ℕ → Certificate → Type 0
AreDischarged js skew c = All (IsDischarged js skew) c.pieces

-- the clear entry at this index shows that the release doesn't cut the piece short
abbrev pub ClearsAt : Journals → ℕ → Piece → Ref → ℕ → Type 0
ClearsAt js skew p r i = (k : Clear) × (slice_get p.clear i ≡ Some k) × IsCleared js skew r p.grant p.to k.why

-- the one at one of these indexes does
abbrev pub OneClears : Journals → ℕ → Piece → Ref → List ℕ → Type 0
OneClears js skew p r indexes = (i : ℕ) × Has indexes i × ClearsAt js skew p r i

-- the release gives back this delegation, which the piece's grant gave, and no clear entry discharges it
abbrev pub CutsLeaseShort : Journals → ℕ → Piece → Delegation → Ref → Type 0
CutsLeaseShort js skew p d r = GivesBack js r d × (Discharges js skew p r → ⊥)

-- n counts, from 1, the first piece that is cut short, and r is the least release that does
abbrev pub IsCutShortAt : Journals → ℕ → Certificate → ℕ × Ref → Type 0
IsCutShortAt js skew c (n, r) =
    (k : ℕ) × (p : Piece) × (n ≡ k + 1) × (slice_get c.pieces k ≡ Some p)
    × HoldsBefore (IsDischarged js skew) c.pieces k × IsLeast (CutsShort js skew p) r

-- the delegation is another client's, of a prefix that overlaps the one asked of
abbrev pub IsOthers : Delegation → Certificate → Type 0
IsOthers d c = (d.client ≢ c.holder) × Overlaps d.prefix c.prefix

-- the line comes before the least so far
abbrev pub ComesFirst : Ref → Option Ref → Type 0
ComesFirst r None = 0 ≤ 0
ComesFirst r (Some m) = ComesBefore r m

-- the reason of each foreign entry holds
abbrev pub AreReasoned : Journals → (skew transit : ℕ) → Certificate → Type 0
AreReasoned js skew transit c = All (ReasonHolds js skew transit c) c.foreign

-- r is the line of the first entry whose reason does not hold
abbrev pub IsUnreasoned : Journals → (skew transit : ℕ) → Certificate → Ref → Type 0
IsUnreasoned js skew transit c r =
    (k : ℕ) × (f : Foreign) × (f.grant ≡ r) × IsFirstNot (ReasonHolds js skew transit c) c.foreign k f
