-- What is shown decides whether a grant carries a piece, and whether a foreign entry's reason holds.
use Rattle.std.specs.Prelude.{◌≡◌, ℕ, ◌+◌, ◌*◌, ◌≤◌, ◌⊎◌, Option, Some, None, MatchOption}
use Rattle.std.proofs.Common.{sym, subst, arith, inl, inr}
use Rattle.prefix_range.specs.Prefix.{Contains}
use Rattle.journal_lines.specs.declared.event.Lease.{Lease}
use Rattle.causal_order.specs.declared.certificate.Certificate.{Certificate}
use Rattle.causal_order.specs.declared.certificate.Piece.{Piece}
use Rattle.causal_order.specs.Journals.{Journals}
use Rattle.causal_order.proofs.Walking.{one_latest, one_earliest}
use Rattle.attribution.specs.Run.{infinity}
use Rattle.attribution.specs.Acceptance.{Grants, IsGranted}
use Rattle.auditor.specs.Bounds.{IsHolders, IsReachedBy}
use Rattle.evidence_report.specs.declared.mark.LineReading.{LineReading}
use Rattle.evidence_report.specs.declared.piece_report.ReportedGrant.{ReportedGrant}
use Rattle.evidence_report.specs.declared.piece_report.PieceReport.{PieceReport}
use Rattle.evidence_report.specs.declared.faults.PieceFault.{PieceFault}
use Rattle.evidence_report.specs.declared.faults.PieceFault.TheVariants.{NoGrant, OtherClient, OtherPrefix, NoChainFrom}
use Rattle.evidence_report.specs.declared.faults.PieceFault.TheVariants.{BegunLate, NoChainTo, EndsEarly}
use Rattle.evidence_report.specs.Marks.{IsLatestMark, IsEarliestMark, IsGrantedAt}
use Rattle.evidence_report.specs.Pieces.{IsPieceReport}
use Rattle.evidence_report.specs.Faults.{FailsPiece, IsHolderFault, BeginsBy, IsBeginFault, LastsBy, IsEndFault}
use Rattle.evidence_report.proofs.Shown.{one_lease}

-- ---- a piece

module _ (js : Journals) (skew transit : ℕ) (c : Certificate) (p : Piece) where
  nothing_granted : IsGrantedAt js p.grant None → FailsPiece js skew transit c p NoGrant
  nothing_granted n = (n, λ h. n h.lease h.grants)

  module _ (g : Lease) (grants : Grants js p.grant g) where
    same : (h : IsGranted js skew transit c p) → h.lease ≡ g
    same h = one_lease js p.grant h.lease g h.grants grants

    not_holders : (fault : PieceFault) → IsHolderFault g c fault → FailsPiece js skew transit c p fault
    not_holders (OtherClient client) f = (
      (g, grants, f.0, f.1),
      λ h. f.1 (subst (λ (x : Lease). x.client ≡ c.holder) (same h) h.holder),
    )
    not_holders (OtherPrefix prefix) f = (
      (g, grants, f.0, f.1, f.2),
      λ h. f.2 (subst (λ (x : Lease). Contains x.prefix c.prefix) (same h) h.round),
    )
    not_holders _ f = absurd f

    module _ (holders : IsHolders g c) where
      not_begun : (latest : Option LineReading) (fault : PieceFault) → IsLatestMark js p.latest p.grant latest
          → IsBeginFault latest skew transit p.from fault → FailsPiece js skew transit c p fault
      not_begun None NoChainFrom n f = (((g, grants, holders), n), λ h. n h.latest h.written_by)
      not_begun (Some m) (BegunLate begun from) w f = (
        ((g, grants, holders), (m.reading, w.0, f.0, f.1, f.2)),
        λ h. (let is = one_latest js p.latest p.grant p.grant m.reading h.latest w.0 h.written_by in
            let le = h.begun in let a = f.0 in let b = f.1 in let lt = f.2 in absurd (omega arith)),
      )
      not_begun _ _ w f = absurd f

      begun_by : (latest : Option LineReading) → IsLatestMark js p.latest p.grant latest → BeginsBy latest skew transit p.from
          → IsReachedBy js p.latest p.grant skew transit p.from
      begun_by None n f = absurd f
      begun_by (Some m) w f = (m.reading, w.0, f)

      module _ (reached : IsReachedBy js p.latest p.grant skew transit p.from) where
        carries : (earliest : Option LineReading) → IsEarliestMark js p.earliest p.grant earliest
            → LastsBy earliest skew g.valid p.to → IsGranted js skew transit c p
        carries None n f = absurd f
        carries (Some m) w f = record {
          lease = g;
          grants = grants;
          holder = holders.0;
          round = holders.1;
          latest = reached.0;
          written_by = reached.1;
          begun = reached.2;
          earliest = m.reading;
          written_from = w.0;
          lasts = f;
        }

        not_lasting : (earliest : Option LineReading) (fault : PieceFault) → IsEarliestMark js p.earliest p.grant earliest
            → IsEndFault earliest skew g.valid p.to fault → FailsPiece js skew transit c p fault
        not_lasting None NoChainTo n f = (((g, grants, holders), reached, n), λ h. n h.earliest h.written_from)
        not_lasting (Some m) (EndsEarly needed shown) w f = (
          (g, grants, holders, reached, f.0, (m.reading, w.0, f.1, f.2, f.3)),
          λ h.
              let is = one_earliest js p.earliest p.grant p.grant m.reading h.earliest w.0 h.written_from in
              let lasts = subst (λ (x : Lease). (x.valid ≡ infinity)
              ⊎ (p.to + skew ≤ h.earliest + 1000 * x.valid)) (same h) h.lasts in
              elim lasts [
                | inl endless ↦ f.0 endless
                | inr le ↦ (let a = f.1 in let b = f.2 in let lt = f.3 in absurd (omega arith))
              ],
        )
        not_lasting _ _ w f = absurd f

        by_end : (earliest : Option LineReading) (o : Option PieceFault) → IsEarliestMark js p.earliest p.grant earliest
            → MatchOption o (LastsBy earliest skew g.valid p.to) (IsEndFault earliest skew g.valid p.to)
            → MatchOption o (IsGranted js skew transit c p) (FailsPiece js skew transit c p)
        by_end earliest None w f = carries earliest w f
        by_end earliest (Some fault) w f = not_lasting earliest fault w f

-- by its report
module _ (js : Journals) (skew transit : ℕ) (c : Certificate) (p : Piece) (shown : PieceReport)
    (h : IsPieceReport js skew p shown) where
  pub no_grant : None ≡ shown.granted → FailsPiece js skew transit c p NoGrant
  no_grant e = nothing_granted js skew transit c p (subst (IsGrantedAt js p.grant) (sym e) h.granted)

  module _ (granted : ReportedGrant) (e : Some granted ≡ shown.granted) where
    grants_it : Grants js p.grant granted.lease
    grants_it = (subst (IsGrantedAt js p.grant) (sym e) h.granted).0

    pub other_holder : (fault : PieceFault) → IsHolderFault granted.lease c fault → FailsPiece js skew transit c p fault
    other_holder fault f = not_holders js skew transit c p granted.lease grants_it fault f

    pub late_begin : (fault : PieceFault) → IsHolders granted.lease c
        → IsBeginFault shown.latest skew transit shown.piece.now.from fault → FailsPiece js skew transit c p fault
    late_begin fault holders f = not_begun js skew transit c p granted.lease grants_it holders shown.latest fault
        h.latest (subst (λ (q : Piece). IsBeginFault shown.latest skew transit q.from fault) h.piece f)

    pub at_end : (o : Option PieceFault) → IsHolders granted.lease c
        → BeginsBy shown.latest skew transit shown.piece.now.from
        → MatchOption o (LastsBy shown.earliest skew granted.lease.valid shown.piece.now.to)
        (IsEndFault shown.earliest skew granted.lease.valid shown.piece.now.to)
        → MatchOption o (IsGranted js skew transit c p) (FailsPiece js skew transit c p)
    at_end o holders begins f =
        let reached = begun_by js skew transit c p granted.lease grants_it holders shown.latest h.latest
        (subst (λ (q : Piece). BeginsBy shown.latest skew transit q.from) h.piece begins) in
        by_end js skew transit c p granted.lease grants_it holders reached shown.earliest o h.earliest
        (subst (λ (q : Piece). MatchOption o (LastsBy shown.earliest skew granted.lease.valid q.to)
        (IsEndFault shown.earliest skew granted.lease.valid q.to)) h.piece f)
