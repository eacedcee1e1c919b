-- What is shown of pieces.
use Rattle.std.specs.Prelude.{◌≡◌, ◌↔◌, ◌⊎◌, ℕ, ◌+◌, IsTrue, List, length, Option, Some, None, map, Contains as Has}
use Rattle.std.specs.Borrow.{Bor}
use Rattle.journal_lines.specs.declared.event.Lease.{Lease}
use Rattle.causal_order.specs.declared.reference.Ref.{Ref}
use Rattle.causal_order.specs.declared.certificate.Piece.{Piece}
use Rattle.causal_order.specs.declared.certificate.Clear.{Clear}
use Rattle.causal_order.specs.declared.certificate.ClearReason.{ClearReason}
use Rattle.causal_order.specs.declared.certificate.ClearReason.TheVariants.{Before as BeforeGrant, After as AfterEnd}
use Rattle.causal_order.specs.Journals.{Journals}
use Rattle.causal_order.specs.LineOrder.{IsLeast}
use Rattle.attribution.specs.declared.delegation.Delegation.{Delegation}
use Rattle.attribution.specs.Delegation.{of_lease}
use Rattle.attribution.specs.Acceptance.{Grants, GivesBack, IsCleared, Discharges}
use Rattle.evidence_report.specs.declared.piece_report.ClearReport.{ClearReport}
use Rattle.evidence_report.specs.declared.piece_report.ClearReport.TheVariants.{Before, After}
use Rattle.evidence_report.specs.declared.piece_report.ReleaseReport.{ReleaseReport}
use Rattle.evidence_report.specs.declared.piece_report.PieceReleases.{PieceReleases}
use Rattle.evidence_report.specs.declared.piece_report.PieceReport.{PieceReport}
use Rattle.evidence_report.specs.Lines.{AreExactly}
use Rattle.evidence_report.specs.Marks.{Reads, IsLatestMark, IsEarliestMark, IsGrantedAt, IsOrderReport}

-- what is shown of why the release doesn't cut the piece short
abbrev pub IsClearing : Journals → Piece → Ref → ClearReason → ClearReport → Type 0
IsClearing js p r (BeforeGrant order) (Before shown) = IsOrderReport js order r p.grant shown
IsClearing js p r (AfterEnd chain) (After shown earliest) = (shown.now ≡ chain) × IsEarliestMark js chain r earliest
IsClearing js p r _ _ = ⊥

-- the entry clears the piece's release, and is one that discharges it if any does
pub record IsEntryOf (js : Journals) (skew : ℕ) (p : Piece) (r : Ref) (k : Clear) (shown : ClearReport) : Type 0 where
  pub listed : Has p.clear k
  pub names : k.release ≡ r
  pub clearing : IsClearing js p r k.why shown
  pub best : Discharges js skew p r → IsCleared js skew r p.grant p.to k.why

-- an entry of the piece that names the release, and how it clears it; none where no entry does
abbrev pub IsShownEntry : Journals → ℕ → Piece → Ref → Option (Bor Clear × ClearReport) → Type 0
IsShownEntry js skew p r None = (k : Clear) → Has p.clear k → k.release ≡ r → ⊥
IsShownEntry js skew p r (Some (k, shown)) = IsEntryOf js skew p r k.now shown

-- the release, with its reading, and whether it is discharged
pub record IsReleaseReport (js : Journals) (skew : ℕ) (p : Piece) (shown : ReleaseReport) : Type 0 where
  pub read : Reads js shown.release.at shown.release.reading
  pub discharged : IsTrue shown.is_discharged ↔ Discharges js skew p shown.release.at
  pub entry : IsShownEntry js skew p shown.release.at shown.entry

-- the release gives back what the piece's grant gave
abbrev pub EndsGrant : Journals → Piece → Ref → Type 0
EndsGrant js p r = (g : Lease) × Grants js p.grant g × GivesBack js r (of_lease g)

-- an entry of the piece names the line
abbrev pub NamesRelease : Piece → Ref → Type 0
NamesRelease p r = (k : Clear) × Has p.clear k × (k.release ≡ r)

-- it is a release, by what makes one, and no entry names it
abbrev pub IsUnnamed : (Ref → Type 0) → Piece → Ref → Type 0
IsUnnamed Ends p r = Ends r × (NamesRelease p r → ⊥)

-- what is told of one by one: a release that an entry names, and the first that none names
abbrev pub IsTold : (Ref → Type 0) → Piece → Ref → Type 0
IsTold Ends p r = Ends r × (NamesRelease p r ⊎ IsLeast (IsUnnamed Ends p) r)

abbrev pub releases_in : List ReleaseReport → List Ref
releases_in shown = map (λ s. s.release.at) shown

-- of all releases exactly these are told of, each once, and so many more there are
pub record AreReleaseReports (js : Journals) (skew : ℕ) (p : Piece) (Ends : Ref → Type 0) (shown : PieceReleases)
    : Type 0 where
  pub told : AreExactly (IsTold Ends p) (releases_in shown.told.items)
  pub each : (s : ReleaseReport) → Has shown.told.items s → IsReleaseReport js skew p s
  pub ending : List Ref
  pub whole : AreExactly Ends ending
  pub counted : length ending ≡ length shown.told.items + shown.more

-- all that is shown of a piece
pub record IsPieceReport (js : Journals) (skew : ℕ) (p : Piece) (shown : PieceReport) : Type 0 where
  pub piece : shown.piece.now ≡ p
  pub granted : IsGrantedAt js p.grant shown.granted
  pub latest : IsLatestMark js p.latest p.grant shown.latest
  pub earliest : IsEarliestMark js p.earliest p.grant shown.earliest
  pub releases : AreReleaseReports js skew p (EndsGrant js p) shown.releases

-- ---- for bodies

-- a release that an entry names
abbrev pub IsNamedRelease : (Ref → Type 0) → Piece → Ref → Type 0
IsNamedRelease Ends p r = Ends r × NamesRelease p r

-- a release of the delegation
abbrev pub EndsDelegation : Journals → Delegation → Ref → Type 0
EndsDelegation js d r = GivesBack js r d

-- one for each of these lines, in their order
pub record AreReportsOf (js : Journals) (skew : ℕ) (p : Piece) (refs : List Ref) (shown : List ReleaseReport)
    : Type 0 where
  pub lines : releases_in shown ≡ refs
  pub each : (s : ReleaseReport) → Has shown s → IsReleaseReport js skew p s

-- the entry discharges the release
abbrev pub IsDischarging : Journals → ℕ → Piece → Ref → Clear → Type 0
IsDischarging js skew p r k = Has p.clear k × (k.release ≡ r) × IsCleared js skew r p.grant p.to k.why
