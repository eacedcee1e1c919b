-- What the report of an accepted certificate shows, and that of one that is refused for a release.
use Rattle.std.specs.Prelude.{◌≡◌, ℕ, ◌+◌, IsTrue, IsSome, Some, slice_get, Contains as Has}
use Rattle.causal_order.specs.declared.certificate.Certificate.{Certificate}
use Rattle.causal_order.specs.declared.reference.Ref.{Ref}
use Rattle.causal_order.specs.Journals.{Journals}
use Rattle.attribution.specs.Acceptance.{IsCarried, ReasonHolds}
use Rattle.attribution.specs.FirstRefusal.{IsVerdict}
use Rattle.attribution.specs.declared.verdict.Verdict.TheVariants.{Accepted, PieceRelease}
use Rattle.evidence_report.specs.declared.piece_report.ReleaseReport.{ReleaseReport}
use Rattle.evidence_report.specs.declared.piece_report.PieceReport.{PieceReport}
use Rattle.evidence_report.specs.declared.foreign_report.ForeignReport.{ForeignReport}
use Rattle.evidence_report.specs.declared.report.Report.{Report}
use Rattle.evidence_report.specs.Reports.{IsReport}

-- the grant carries the piece: the grant and both marks are there, each release is told of, and each is discharged
pub record IsWholePiece (js : Journals) (skew transit : ℕ) (c : Certificate) (shown : PieceReport) : Type 0 where
  pub carried : IsCarried js skew transit c shown.piece.now
  pub granted : IsSome shown.granted
  pub latest : IsSome shown.latest
  pub earliest : IsSome shown.earliest
  pub discharged : (r : ReleaseReport) → Has shown.releases.told.items r → IsTrue r.is_discharged
  pub uncounted : shown.releases.more ≡ 0

-- the entry's reason holds, and what its line tells of is there
pub record IsWholeEntry (js : Journals) (skew transit : ℕ) (c : Certificate) (shown : ForeignReport) : Type 0 where
  pub holds : ReasonHolds js skew transit c shown.entry.now
  pub told : IsSome shown.told

pub record IsWholeReport (js : Journals) (skew transit : ℕ) (c : Certificate) (shown : Report) : Type 0 where
  pub pieces : (p : PieceReport) → Has shown.pieces.items p → IsWholePiece js skew transit c p
  pub foreign : (f : ForeignReport) → Has shown.foreign.items f → IsWholeEntry js skew transit c f

-- where the certificate is accepted, nothing is missing in its report
abbrev pub AcceptedIsWhole : Type 0
AcceptedIsWhole = (js : Journals) (skew transit : ℕ) (c : Certificate) (shown : Report)
    → IsReport js skew transit c shown → IsVerdict js skew transit c Accepted → IsWholeReport js skew transit c shown

-- the report of the piece of this number tells of the release, and that no entry discharges it
abbrev pub TellsCut : Report → ℕ → Ref → Type 0
TellsCut shown n r =
    (k : ℕ) × (p : PieceReport) × (s : ReleaseReport) × (n ≡ k + 1) × (slice_get shown.pieces.items k ≡ Some p)
    × Has p.releases.told.items s × (s.release.at ≡ r) × (IsTrue s.is_discharged → ⊥)

-- where a release is why the certificate is refused, it is told of
abbrev pub RefusalIsTold : Type 0
RefusalIsTold = (js : Journals) (skew transit : ℕ) (c : Certificate) (shown : Report) (n : ℕ) (r : Ref)
    → IsReport js skew transit c shown → IsVerdict js skew transit c (PieceRelease n r) → TellsCut shown n r
