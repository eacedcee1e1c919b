-- The release that a refusal rests on is told of.
use Rattle.std.specs.Prelude.{◌≡◌, ◌⊎◌, ℕ, ◌+◌, IsTrue, List, Option, Some, None, slice_get, option_map, map}
use Rattle.std.specs.Prelude.{Contains as Has}
use Rattle.std.proofs.Common.{sym, ◌∙◌, ap, subst, refl, arith, inl, inr}
use Rattle.std.proofs.lemmas.Bool.{cases_Bool}
use Rattle.std.proofs.lemmas.Bool.Decides.{not_from_Decides}
use Rattle.std.proofs.lemmas.Option.{slice_get-map, slice_get_within}
use Rattle.causal_order.specs.declared.certificate.Certificate.{Certificate}
use Rattle.causal_order.specs.declared.certificate.Piece.{Piece}
use Rattle.causal_order.specs.declared.certificate.Clear.{Clear}
use Rattle.causal_order.specs.declared.reference.Ref.{Ref}
use Rattle.causal_order.specs.Journals.{Journals}
use Rattle.causal_order.specs.LineOrder.{IsLeast}
use Rattle.causal_order.proofs.Deciding.{decides_ref}
use Rattle.attribution.specs.declared.condition.Condition.TheVariants.{Discharged}
use Rattle.attribution.specs.declared.verdict.Verdict.TheVariants.{PieceRelease}
use Rattle.attribution.specs.Acceptance.{Discharges}
use Rattle.attribution.specs.FirstRefusal.{CutsShort, IsVerdict}
use Rattle.attribution.proofs.Deciding.{decides_any}
use Rattle.auditor.proofs.Given.{Contains-get, get-Contains}
use Rattle.evidence_report.specs.declared.piece_report.ReleaseReport.{ReleaseReport}
use Rattle.evidence_report.specs.declared.piece_report.PieceReport.{PieceReport}
use Rattle.evidence_report.specs.declared.report.Report.{Report}
use Rattle.evidence_report.specs.Pieces.{EndsGrant, NamesRelease, IsTold, releases_in, IsPieceReport}
use Rattle.evidence_report.specs.Reports.{IsReport}
use Rattle.evidence_report.specs.Whole.{TellsCut, RefusalIsTold}
use Rattle.evidence_report.proofs.InOrder.{one_at}
use Rattle.evidence_report.proofs.Refused.{refused}

named_or_not : (p : Piece) (r : Ref) → NamesRelease p r ⊎ (NamesRelease p r → ⊥)
named_or_not p r =
    let d = decides_any _ (λ (k : Clear). k.release ≡ r) (λ k. decides_ref k.release r) p.clear in
    elim (cases_Bool _) [ inl is ↦ inl (d.0 is) | inr other ↦ inr (not_from_Decides _ d other) ]

at_line : (r : Ref) (o : Option ReleaseReport) → option_map (λ s. s.release.at) o ≡ Some r
    → (s : ReleaseReport) × (o ≡ Some s) × (s.release.at ≡ r)
at_line r None e = absurd (cc)
at_line r (Some s) e = (s, refl, cc)

-- a report stands for each line that is told of
report_of : (shown : List ReleaseReport) (r : Ref) → Has (releases_in shown) r
    → (s : ReleaseReport) × Has shown s × (s.release.at ≡ r)
report_of shown r has =
    let at = get-Contains (releases_in shown) r has in
    let s = at_line r (slice_get shown at.0)
    (sym (slice_get-map (λ (s : ReleaseReport). s.release.at) shown at.0) ∙ at.2) in
    (s.0, Contains-get shown at.0 s.0 s.1, s.2)

module _ (js : Journals) (skew : ℕ) (p : Piece) (r : Ref) (least : IsLeast (CutsShort js skew p) r) where
  ends : EndsGrant js p r
  ends = (least.0.0, least.0.1, least.0.2)

  -- a release that no entry names is discharged by none
  cut_is_told : IsTold (EndsGrant js p) p r
  cut_is_told = (
    ends,
    elim (named_or_not p r) [
      | inl names ↦ inl names
      | inr not ↦ inr (
        (ends, not),
        λ s before u.
            least.1 s before (u.0.0, u.0.1, u.0.2, λ d. u.1 (d.0, d.1, d.2)),
      )
    ],
  )

  cut_in : (shown : PieceReport) → IsPieceReport js skew p shown
      → (s : ReleaseReport) × Has shown.releases.told.items s × (s.release.at ≡ r) × (IsTrue s.is_discharged → ⊥)
  cut_in shown h =
      let s = report_of shown.releases.told.items r (h.releases.told.all r cut_is_told) in
      (s.0, s.1, s.2, λ t. least.0.3 (subst (Discharges js skew p) s.2 ((h.releases.each s.0 s.1).discharged.0 t)))

pub refusal_is_told : RefusalIsTold
refusal_is_told js skew transit c shown n r h v =
    let f = refused js skew transit c (PieceRelease n r) Discharged v refl in
    let e = f.2 in
    let number : f.0 ≡ n = cc in
    let line : f.1 ≡ r = cc in
    let k = f.3.0 in
    let within = slice_get_within c.pieces k f.3.1 f.3.3 in
    let some = one_at shown.pieces.items k (let count = h.pieces.count in omega arith) in
    let s = cut_in js skew f.3.1 r (subst (IsLeast (CutsShort js skew f.3.1)) line f.3.5) some.0
    (h.pieces.each k f.3.1 some.0 f.3.3 some.1) in
    (k, some.0, s.0, sym number ∙ f.3.2, some.1, s.1, s.2, s.3)
