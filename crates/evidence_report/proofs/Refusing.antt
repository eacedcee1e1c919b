-- Which comparison a refusal rests on.
use Rattle.std.specs.Prelude.{◌≡◌, ◌↔◌, ℕ, ◌+◌, ◌*◌, ◌<◌, IsTrue, Bool, false, List, [], ◌∷◌, All}
use Rattle.std.specs.Prelude.{Option, Some, None, MatchOption, option_map, slice_get}
use Rattle.std.proofs.Common.{zero, suc, ap, refl, arith, ◌∙◌, sym, subst, inl, inr}
use Rattle.std.proofs.lemmas.Option.{slice_get_within}
use Rattle.binding_rules.specs.declared.role.Role.{Role}
use Rattle.binding_rules.specs.declared.role.Role.TheVariants.{Primary, Secondary}
use Rattle.binding_rules.specs.Role.{partner_of}
use Rattle.journal_lines.specs.declared.line.Line.{Line}
use Rattle.causal_order.specs.declared.reference.Ref.{Ref}
use Rattle.causal_order.specs.declared.certificate.Certificate.{Certificate}
use Rattle.causal_order.specs.declared.certificate.Piece.{Piece}
use Rattle.causal_order.specs.declared.certificate.Foreign.{Foreign}
use Rattle.causal_order.specs.Journals.{Journals, Names, line_of, open_of}
use Rattle.causal_order.specs.Bounds.{reading_of}
use Rattle.causal_order.proofs.Deciding.{line_names, names_line}
use Rattle.causal_order.proofs.Walking.{one_earliest}
use Rattle.attribution.specs.Acceptance.{HasEarlier, IsPastPartner, IsPastOpen, IsGrantedAfterOpen, ReasonHolds}
use Rattle.attribution.specs.FirstRefusal.{begin_at}
use Rattle.auditor.specs.Opened.{HasLineOf, IsClearOfOpen, IsPastOwn}
use Rattle.evidence_report.specs.declared.mark.LineReading.{LineReading}
use Rattle.evidence_report.specs.declared.piece_report.PieceReport.{PieceReport}
use Rattle.evidence_report.specs.declared.faults.PieceFault.{PieceFault}
use Rattle.evidence_report.specs.declared.faults.ForeignFault.{ForeignFault}
use Rattle.evidence_report.specs.declared.faults.Failure.{Failure}
use Rattle.evidence_report.specs.declared.report.SideReport.{SideReport}
use Rattle.evidence_report.specs.declared.report.Report.{Report}
use Rattle.evidence_report.specs.Marks.{IsEarliestMark}
use Rattle.evidence_report.specs.Pieces.{IsPieceReport}
use Rattle.evidence_report.specs.Reports.{AreShown, IsSideReport, IsReport}
use Rattle.evidence_report.specs.Failures.{side_in, IsBeforeOpen, IsOpenFailure}
use Rattle.evidence_report.specs.Faults.{FailsPiece, FailsForeign}
use Rattle.evidence_report.proofs.InOrder.{one_at}

-- ---- where pieces begin

pub begins_first : (from : ℕ) (ps : List Piece) → begin_at from ps 0 ≡ from
begins_first from ps = refl

pub begins_behind : (from : ℕ) (ps : List Piece) (k index : ℕ) (p : Piece) → index ≡ k + 1 → slice_get ps k ≡ Some p
    → p.to ≡ begin_at from ps index
begins_behind from ps k index p is e = behind from ps k p e ∙ ap (begin_at from ps) (let same : suc k ≡ index =
    omega arith in same)
  where
    behind : (from : ℕ) (ps : List Piece) (k : ℕ) (p : Piece) → slice_get ps k ≡ Some p → p.to ≡ begin_at from ps (suc k)
    behind from [] k p e = absurd (cc)
    behind from (q ∷ ps) zero p e = let is : p ≡ q = cc in ap (λ (x : Piece). x.to) is
    behind from (q ∷ ps) (suc k) p e = behind q.to ps k p e

-- ---- what a report shows

pub side_shown : (js : Journals) (skew transit : ℕ) (c : Certificate) (shown : Report) (side : Role)
    → IsReport js skew transit c shown → IsSideReport js side (side_in shown side)
side_shown js skew transit c shown Primary h = h.primary
side_shown js skew transit c shown Secondary h = h.secondary

pub one_for : {X Y : Type 0} (Shows : X → Y → Type 0) (xs : List X) (ys : List Y) (i : ℕ) (y : Y)
    → AreShown Shows xs ys → slice_get ys i ≡ Some y → (x : X) × (slice_get xs i ≡ Some x) × Shows x y
one_for Shows xs ys i y h e =
    let lt = slice_get_within ys i y e in
    let some = one_at xs i (let n = h.count in omega arith) in
    (some.0, some.1, h.each i some.0 y some.1 e)

opening_by : (js : Journals) (r : Ref) (reading : ℕ) (o : Option Line) → line_of js r ≡ o
    → option_map (λ l. l.reading) o ≡ Some reading → (l : Line) × Names js r l × (l.reading ≡ reading)
opening_by js r reading None e is = absurd (cc)
opening_by js r reading (Some l) e is = (l, line_names js r l e, cc)

opening_line : (js : Journals) (r : Ref) (reading : ℕ) → reading_of js r ≡ Some reading
    → (l : Line) × Names js r l × (l.reading ≡ reading)
opening_line js r reading e = opening_by js r reading (line_of js r) refl e

read_there : (js : Journals) (r : Ref) (l : Line) → Names js r l → reading_of js r ≡ Some l.reading
read_there js r l names = ap (option_map (λ (l : Line). l.reading)) (names_line js r l names)

module _ (js : Journals) (skew transit : ℕ) (c : Certificate) (shown : Report) (h : IsReport js skew transit c shown)
    (side : Role) (s : SideReport) (is : s ≡ side_in shown side) where
  opened_at : s.opened ≡ reading_of js (open_of side)
  opened_at = ap (λ (x : SideReport). x.opened) is ∙ (side_shown js skew transit c shown side h).opened

  pub has_earlier : 1 < s.volume → HasEarlier js side
  has_earlier lt =
      let volume = ap (λ (x : SideReport). x.volume) is ∙ (side_shown js skew transit c shown side h).volume in
      omega (arith, volume)

  module _ (p : Piece) (piece : PieceReport) (q : IsPieceReport js skew p piece) where
    pub clear_by : (opened : ℕ) (m : LineReading) (b : Bool) → s.opened ≡ Some opened → piece.earliest ≡ Some m → IsTrue b
        ↔ opened + 2 * shown.skew < m.reading → IsTrue b ↔ IsClearOfOpen js skew p side
    clear_by opened m b e f d =
        let l = opening_line js (open_of side) opened (sym opened_at ∙ e) in
        let w = subst (IsEarliestMark js p.earliest p.grant) f q.earliest in
        let within = h.within in (
          λ t. (l.0, l.1, (m.reading, w.0, (let lt = d.0 t in let at = l.2 in omega arith))),
          λ clear. d.1 (
              let same = one_earliest js p.earliest p.grant p.grant m.reading clear.2.0 w.0 clear.2.1 in
              let lt = clear.2.2 in
              let x : Some opened ≡ Some clear.0.reading =
              sym e ∙ (opened_at ∙ read_there js (open_of side) clear.0 clear.1) in
              let at : opened ≡ clear.0.reading = cc in
              omega arith),
        )

    pub clear_unopened : s.opened ≡ None → IsTrue false ↔ IsClearOfOpen js skew p side
    clear_unopened e = (
      λ t. absurd (cc),
      λ clear. absurd (let x : None ≡ Some clear.0.reading = sym e ∙ (opened_at
          ∙ read_there js (open_of side) clear.0 clear.1) in cc),
    )

    pub clear_unchained : piece.earliest ≡ None → IsTrue false ↔ IsClearOfOpen js skew p side
    clear_unchained e = (
      λ t. absurd (cc),
      λ clear. absurd ((subst (IsEarliestMark js p.earliest p.grant) e q.earliest) clear.2.0 clear.2.1),
    )

-- ---- pieces that come behind earlier volumes

module _ (js : Journals) (skew : ℕ) (p : Piece) (piece : PieceReport) (q : IsPieceReport js skew p piece) (side : Role)
    (partner : side ≡ partner_of piece.piece.now.grant.side) where
  partner_is : side ≡ partner_of p.grant.side
  partner_is = partner ∙ ap (λ (x : Piece). partner_of x.grant.side) q.piece

  pub past_by_line : HasLineOf piece.piece.now.earliest side → IsPastPartner js skew p
  past_by_line has = record {
    after = λ earlier. subst (IsGrantedAfterOpen js skew p) partner_is
        (inl (subst (λ (x : Piece). HasLineOf x.earliest side) q.piece has));
  }

  pub past_by_clock : IsClearOfOpen js skew p side → IsPastPartner js skew p
  past_by_clock clear = record { after = λ earlier. subst (IsGrantedAfterOpen js skew p) partner_is (inr clear) }

  pub before_open : HasEarlier js side → (HasLineOf piece.piece.now.earliest side → ⊥)
      → (IsClearOfOpen js skew p side → ⊥) → IsBeforeOpen js skew p side
  before_open earlier line clear = (
    partner_is,
    earlier,
    λ after. elim after [
      | inl has ↦ line (subst (λ (x : Piece). HasLineOf x.earliest side) (sym q.piece) has)
      | inr late ↦ clear late
    ],
  )

-- ---- faults of what a report shows

module _ (js : Journals) (skew transit : ℕ) (c : Certificate) (shown : Report) (h : IsReport js skew transit c shown) where
  pub fails_as_shown : (f : Foreign) (fault : ForeignFault)
      → FailsForeign js shown.skew shown.transit shown.certificate.now f fault → FailsForeign js skew transit c f fault
  fails_as_shown f fault fails =
      subst (λ (d : Certificate). FailsForeign js skew transit d f fault) h.certificate
      (subst (λ (t : ℕ). FailsForeign js skew t shown.certificate.now f fault) h.reaching
      (subst (λ (e : ℕ). FailsForeign js e shown.transit shown.certificate.now f fault) h.within fails))

  pub holds_as_shown : (f : Foreign) → ReasonHolds js shown.skew shown.transit shown.certificate.now f
      → ReasonHolds js skew transit c f
  holds_as_shown f holds =
      subst (λ (d : Certificate). ReasonHolds js skew transit d f) h.certificate
      (subst (λ (t : ℕ). ReasonHolds js skew t shown.certificate.now f) h.reaching
      (subst (λ (e : ℕ). ReasonHolds js e shown.transit shown.certificate.now f) h.within holds))

  pub uncarried_at : (k index : ℕ) (p : Piece) (piece : PieceReport) (fault : PieceFault) → index ≡ k
      → slice_get c.pieces k ≡ Some p → slice_get shown.pieces.items index ≡ Some piece
      → ((js : Journals) (p : Piece) → IsPieceReport js shown.skew p piece
      → FailsPiece js shown.skew shown.transit shown.certificate.now p fault) → FailsPiece js skew transit c p fault
  uncarried_at k index p piece fault e at there fails =
      let report = h.pieces.each k p piece at (ap (slice_get shown.pieces.items) (sym e) ∙ there) in
      let fault_there = fails js p (subst (λ (s : ℕ). IsPieceReport js s p piece) (sym h.within) report) in
      subst (λ (d : Certificate). FailsPiece js skew transit d p fault) h.certificate
      (subst (λ (t : ℕ). FailsPiece js skew t shown.certificate.now p fault) h.reaching
      (subst (λ (e : ℕ). FailsPiece js e shown.transit shown.certificate.now p fault) h.within fault_there))

pub opened_by : (js : Journals) (skew transit : ℕ) (c : Certificate) (o : Option Failure)
    → IsPastOwn js skew transit c Primary → IsPastOwn js skew transit c Secondary
    → MatchOption o (All (IsPastPartner js skew) c.pieces) (IsOpenFailure js skew transit c)
    → MatchOption o (IsPastOpen js skew transit c) (IsOpenFailure js skew transit c)
opened_by js skew transit c None a b h = record {
  interval = λ side. (elim side as (λ x. IsPastOwn js skew transit c x) [ Primary ↦ a | Secondary ↦ b ]).after;
  pieces = h;
}
opened_by js skew transit c (Some failure) a b h = h
