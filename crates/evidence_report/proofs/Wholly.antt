-- What the report of an accepted certificate shows.
use Rattle.std.specs.Prelude.{◌≡◌, ℕ, ◌+◌, ◌≤◌, IsSome, List, length, Option, Some, None, slice_get, option_map}
use Rattle.std.specs.Prelude.{Contains as Has}
use Rattle.std.proofs.Common.{sym, ◌∙◌, ap, subst, refl, arith, inl}
use Rattle.std.proofs.lemmas.List.{length-map}
use Rattle.std.proofs.lemmas.Option.{slice_get-map}
use Rattle.journal_lines.specs.declared.event.Lease.{Lease}
use Rattle.causal_order.specs.declared.certificate.Certificate.{Certificate}
use Rattle.causal_order.specs.declared.certificate.Piece.{Piece}
use Rattle.causal_order.specs.declared.certificate.Foreign.{Foreign}
use Rattle.causal_order.specs.declared.reference.Ref.{Ref}
use Rattle.causal_order.specs.Journals.{Journals}
use Rattle.causal_order.specs.Order.{WrittenBy, WrittenFrom}
use Rattle.attribution.specs.declared.delegation.Delegation.{Delegation}
use Rattle.attribution.specs.Acceptance.{Grants, Tells, IsCarried, ReasonHolds}
use Rattle.attribution.proofs.Refusals.{accepted_from, at_index}
use Rattle.auditor.proofs.Given.{Contains-get, get-Contains}
use Rattle.evidence_report.specs.declared.mark.LineReading.{LineReading}
use Rattle.evidence_report.specs.declared.piece_report.ReportedGrant.{ReportedGrant}
use Rattle.evidence_report.specs.declared.piece_report.ReleaseReport.{ReleaseReport}
use Rattle.evidence_report.specs.declared.piece_report.PieceReport.{PieceReport}
use Rattle.evidence_report.specs.declared.foreign_report.ReportedDelegation.{ReportedDelegation}
use Rattle.evidence_report.specs.declared.foreign_report.ForeignReport.{ForeignReport}
use Rattle.evidence_report.specs.Marks.{IsLatestMark, IsEarliestMark, IsGrantedAt, IsToldAt}
use Rattle.evidence_report.specs.Pieces.{IsPieceReport, releases_in}
use Rattle.evidence_report.specs.Others.{IsForeignReport}
use Rattle.evidence_report.specs.Reports.{AreShown}
use Rattle.evidence_report.proofs.InOrder.{one_at, no_more}
use Rattle.evidence_report.specs.Whole.{IsWholePiece, IsWholeEntry, AcceptedIsWhole}

-- what is shown stands for one of the list
pub shown_for : {X Y : Type 0} (Shows : X → Y → Type 0) (xs : List X) (ys : List Y) → AreShown Shows xs ys → (y : Y)
    → Has ys y → (i : ℕ) × (x : X) × (slice_get xs i ≡ Some x) × (slice_get ys i ≡ Some y) × Shows x y
shown_for Shows xs ys h y has =
    let at = get-Contains ys y has in
    let lt = at.1 in
    let some = one_at xs at.0 (let n = h.count in omega arith) in
    (at.0, some.0, some.1, at.2, h.each at.0 some.0 y some.1 at.2)

-- the line of a release that is told of
line_of_report : (shown : List ReleaseReport) (s : ReleaseReport) → Has shown s → Has (releases_in shown) s.release.at
line_of_report shown s has =
    let at = get-Contains shown s has in
    Contains-get (releases_in shown) at.0 s.release.at (slice_get-map (λ (s : ReleaseReport). s.release.at) shown at.0
    ∙ ap (option_map (λ (s : ReleaseReport). s.release.at)) at.2)

some_lease : (js : Journals) (r : Ref) (g : Lease) (o : Option ReportedGrant) → Grants js r g → IsGrantedAt js r o → IsSome o
some_lease js r g None grants n = absurd (n g grants)
some_lease js r g (Some shown) grants h = refl

some_told : (js : Journals) (r : Ref) (d : Delegation) (o : Option ReportedDelegation) → Tells js r d → IsToldAt js r o → IsSome o
some_told js r d None tells n = absurd (n d tells)
some_told js r d (Some shown) tells h = refl

some_latest : (js : Journals) (chain : List Ref) (r : Ref) (x : ℕ) (o : Option LineReading) → WrittenBy js chain r x
    → IsLatestMark js chain r o → IsSome o
some_latest js chain r x None w n = absurd (n x w)
some_latest js chain r x (Some m) w h = refl

some_earliest : (js : Journals) (chain : List Ref) (r : Ref) (x : ℕ) (o : Option LineReading) → WrittenFrom js chain r x
    → IsEarliestMark js chain r o → IsSome o
some_earliest js chain r x None w n = absurd (n x w)
some_earliest js chain r x (Some m) w h = refl

module _ (js : Journals) (skew transit : ℕ) (c : Certificate) where
  piece_whole : (p : Piece) (shown : PieceReport) → IsCarried js skew transit c p → IsPieceReport js skew p shown
      → IsWholePiece js skew transit c shown
  piece_whole p shown carried h = record {
    carried = subst (IsCarried js skew transit c) (sym h.piece) carried;
    granted = some_lease js p.grant carried.0.lease shown.granted carried.0.grants h.granted;
    latest = some_latest js p.latest p.grant carried.0.latest shown.latest carried.0.written_by h.latest;
    earliest = some_earliest js p.earliest p.grant carried.0.earliest shown.earliest carried.0.written_from h.earliest;
    discharged = λ r has.
        let ends = (h.releases.told.only r.release.at (line_of_report shown.releases.told.items r has)).0 in
        (h.releases.each r has).discharged.1 (carried.1 r.release.at ends.0 ends.1 ends.2);
    uncounted =
        let told = h.releases.told in
        let all = h.releases.whole in
        let fewer = no_more (releases_in shown.releases.told.items) h.releases.ending told.once all.once
        (λ r has. (let ends = all.only r has in let clears = carried.1 r ends.0 ends.1 ends.2 in
        told.all r (ends, inl (clears.0, clears.1, clears.2)))) in
        let lines = length-map shown.releases.told.items (λ (s : ReleaseReport). s.release.at) in
        omega (arith, fewer, lines, h.releases.counted);
  }

  entry_whole : (f : Foreign) (shown : ForeignReport) → ReasonHolds js skew transit c f → IsForeignReport js f shown
      → IsWholeEntry js skew transit c shown
  entry_whole f shown holds h = record {
    holds = subst (ReasonHolds js skew transit c) (sym h.entry) holds;
    told = some_told js f.grant holds.0 shown.told holds.1 h.told;
  }

pub accepted_is_whole : AcceptedIsWhole
accepted_is_whole js skew transit c shown h v =
    let accepted = accepted_from js skew transit c v in
    record {
      pieces = λ p has.
          let of = shown_for (IsPieceReport js skew) c.pieces shown.pieces.items h.pieces p has in
          piece_whole js skew transit c of.1 p
          (at_index (IsCarried js skew transit c) c.pieces of.0 of.1 of.2 accepted.carried) of.4;
      foreign = λ f has.
          let of = shown_for (IsForeignReport js) c.foreign shown.foreign.items h.foreign f has in
          entry_whole js skew transit c of.1 f
          (at_index (ReasonHolds js skew transit c) c.foreign of.0 of.1 of.2 accepted.outside) of.4;
    }
