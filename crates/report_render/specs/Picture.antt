-- What of a report is drawn.
use Rattle.std.specs.Prelude.{◌≡◌, ℕ, ◌+◌, ◌-◌, ◌*◌, List, [], ◌∷◌, ◌++◌, map, Option, Some, None, Contains as Has}
use Rattle.std.specs.List.{flat_map, AllByRecursion}
use Rattle.causal_order.specs.declared.reference.Ref.{Ref}
use Rattle.attribution.specs.declared.delegation.Lasting.{Lasting}
use Rattle.attribution.specs.declared.delegation.Lasting.TheVariants.{For, Until}
use Rattle.evidence_report.specs.declared.mark.LineReading.{LineReading}
use Rattle.evidence_report.specs.declared.piece_report.ReportedGrant.{ReportedGrant}
use Rattle.evidence_report.specs.declared.piece_report.PieceReport.{PieceReport}
use Rattle.evidence_report.specs.declared.foreign_report.ReportedDelegation.{ReportedDelegation}
use Rattle.evidence_report.specs.declared.foreign_report.ForeignEvidence.{ForeignEvidence}
use Rattle.evidence_report.specs.declared.foreign_report.ForeignEvidence.TheVariants.{Early, Late, Released}
use Rattle.evidence_report.specs.declared.foreign_report.ForeignReport.{ForeignReport}
use Rattle.evidence_report.specs.declared.report.CitedLine.{CitedLine}
use Rattle.evidence_report.specs.declared.report.Report.{Report}
use Rattle.report_render.specs.declared.picture.LeaseBar.{LeaseBar}
use Rattle.report_render.specs.declared.picture.LineDot.{LineDot}
use Rattle.report_render.specs.declared.picture.MessageArrow.{MessageArrow}
use Rattle.report_render.specs.declared.picture.Picture.{Picture}

-- The lease of a grant that was written between two marks: when it began and ended at the earliest and at the latest.
abbrev pub lease_bar : (skew transit : ℕ) → Ref → (valid : ℕ) → (earliest latest : LineReading) → LeaseBar
lease_bar skew transit r valid earliest latest = record {
  at = r;
  earliest = earliest.reading - skew;
  sure = Some (latest.reading + skew + transit, earliest.reading + 1000 * valid - skew);
  latest = latest.reading + skew + transit + 1000 * valid;
}

abbrev pub bar_of_marks : (skew transit : ℕ) → Ref → Option ReportedGrant → (earliest latest : Option LineReading) → Option LeaseBar
bar_of_marks skew transit r (Some g) (Some e) (Some l) = Some (lease_bar skew transit r g.lease.valid e l)
bar_of_marks skew transit r (Some g) (Some e) None = None
bar_of_marks skew transit r (Some g) None l = None
bar_of_marks skew transit r None e l = None

-- that of a piece, where all of it is shown
abbrev pub piece_bar : (skew transit : ℕ) → PieceReport → Option LeaseBar
piece_bar skew transit p = bar_of_marks skew transit p.piece.now.grant p.granted p.earliest p.latest

-- by when what is told of at this reading had ended by itself
abbrev pub lasts_until : (skew transit reading : ℕ) → Lasting → ℕ
lasts_until skew transit reading (For seconds) = reading + skew + transit + 1000 * seconds
lasts_until skew transit reading (Until end) = end + skew + transit

abbrev pub carried_until : (skew transit : ℕ) → ReportedDelegation → ℕ
carried_until skew transit t = lasts_until skew transit t.reading t.delegation.lasting

-- or by when it was given back
abbrev pub foreign_end : (skew transit : ℕ) → ReportedDelegation → ForeignEvidence → ℕ
foreign_end skew transit t (Early chain m) = carried_until skew transit t
foreign_end skew transit t (Late chain m) = carried_until skew transit t
foreign_end skew transit t (Released release back order chain None) = carried_until skew transit t
foreign_end skew transit t (Released release back order chain (Some m)) = m.reading + skew

abbrev pub told_bar : (skew transit : ℕ) → Ref → Option ReportedDelegation → ForeignEvidence → Option LeaseBar
told_bar skew transit r None outside = None
told_bar skew transit r (Some t) outside = Some (record {
  at = r;
  earliest = t.reading - skew;
  sure = None;
  latest = foreign_end skew transit t outside;
})

-- another client's delegation
abbrev pub foreign_bar : (skew transit : ℕ) → ForeignReport → Option LeaseBar
foreign_bar skew transit f = told_bar skew transit f.entry.now.grant f.told f.outside

abbrev pub bars_of : Option LeaseBar → List LeaseBar
bars_of None = []
bars_of (Some bar) = bar ∷ []

-- a line that is cited, at its reading
abbrev pub dot_of : CitedLine → LineDot
dot_of c = record { at = c.at; reading = c.line.reading }

-- the arrow goes from one of these dots to another
abbrev pub Joins : List LineDot → MessageArrow → Type 0
Joins dots a = Has dots a.sent × Has dots a.taken

pub record AreMessages (dots : List LineDot) (arrows : List MessageArrow) : Type 0 where
  pub each : AllByRecursion (Joins dots) arrows

-- a bar for each piece, then one for each foreign entry, where there is one
unfoldable pub report_bars : Report → List LeaseBar
report_bars r =
    flat_map (λ piece. bars_of (piece_bar r.skew r.transit piece)) r.pieces.items
    ++ flat_map (λ foreign. bars_of (foreign_bar r.skew r.transit foreign)) r.foreign.items

-- with the moment that was asked about, where it was one
pub record IsPicture (r : Report) (asked : Option ℕ) (p : Picture) : Type 0 where
  pub from : p.from ≡ r.certificate.now.from
  pub to : p.to ≡ r.certificate.now.to
  pub asked_is : p.asked ≡ asked
  pub bars : p.bars.items ≡ report_bars r
  pub dots : p.dots.items ≡ map dot_of r.cited.items
  pub arrows : AreMessages p.dots.items p.arrows.items
