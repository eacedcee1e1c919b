-- All that a certificate shows over two journals.
use Rattle.std.specs.Prelude.{◌≡◌, ℕ, List, length, Some, slice_get}
use Rattle.binding_rules.specs.declared.role.Role.{Role}
use Rattle.binding_rules.specs.declared.role.Role.TheVariants.{Primary, Secondary}
use Rattle.causal_order.specs.declared.certificate.Certificate.{Certificate}
use Rattle.causal_order.specs.Journals.{Journals, journal_of, volume_of, open_of}
use Rattle.causal_order.specs.Bounds.{reading_of}
use Rattle.auditor.specs.Closing.{ClosesAt}
use Rattle.evidence_report.specs.declared.report.SideReport.{SideReport}
use Rattle.evidence_report.specs.declared.report.Report.{Report}
use Rattle.evidence_report.specs.Pieces.{IsPieceReport}
use Rattle.evidence_report.specs.Others.{IsForeignReport}
use Rattle.evidence_report.specs.Cited.{AreCited}

-- one is shown for each, in its place
pub record AreShown {X Y : Type 0} (Shows : X → Y → Type 0) (xs : List X) (ys : List Y) : Type 0 where
  pub count : length ys ≡ length xs
  pub each : (i : ℕ) (x : X) (y : Y) → slice_get xs i ≡ Some x → slice_get ys i ≡ Some y → Shows x y

-- the side's volume, and the readings of its first line and its close line
pub record IsSideReport (js : Journals) (side : Role) (shown : SideReport) : Type 0 where
  pub volume : shown.volume ≡ volume_of js side
  pub opened : shown.opened ≡ reading_of js (open_of side)
  pub closed : ClosesAt (journal_of js side) shown.closed

-- all that the certificate shows
pub record IsReport (js : Journals) (skew transit : ℕ) (c : Certificate) (shown : Report) : Type 0 where
  pub certificate : shown.certificate.now ≡ c
  pub within : shown.skew ≡ skew
  pub reaching : shown.transit ≡ transit
  pub primary : IsSideReport js Primary shown.primary
  pub secondary : IsSideReport js Secondary shown.secondary
  pub pieces : AreShown (IsPieceReport js skew) c.pieces shown.pieces.items
  pub foreign : AreShown (IsForeignReport js) c.foreign shown.foreign.items
  pub cited : AreCited js c shown.pieces.items shown.cited.items
