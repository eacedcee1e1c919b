-- Reports, one for each.
use Rattle.std.specs.Prelude.{◌≡◌, ℕ, ◌+◌, ◌<◌, ◌≤◌, List, [], ◌∷◌, ◌++◌, length, Option, Some, None, slice_get}
use Rattle.std.specs.Prelude.{option_map, take}
use Rattle.std.specs.Prelude.{Contains as Has}
use Rattle.std.proofs.Common.{sym, ◌∙◌, ap, subst, arith, inl, inr, get_or, refl, append_assoc, append-nil}
use Rattle.std.proofs.Common.{length-append}
use Rattle.std.proofs.lemmas.List.{take_more, take_all, map-append}
use Rattle.std.proofs.lemmas.Option.{slice_get-get_or}
use Rattle.std.proofs.lemmas.List.Elements.{Contains-push_cases}
use Rattle.journal_lines.specs.declared.event.Lease.{Lease}
use Rattle.journal_lines.specs.declared.line.Line.{Line}
use Rattle.causal_order.specs.declared.reference.Ref.{Ref}
use Rattle.causal_order.specs.declared.certificate.Piece.{Piece}
use Rattle.causal_order.specs.Journals.{Journals, line_of}
use Rattle.causal_order.proofs.Deciding.{line_names, names_line}
use Rattle.attribution.specs.declared.delegation.Delegation.{Delegation}
use Rattle.attribution.specs.Delegation.{of_lease}
use Rattle.attribution.specs.Acceptance.{Grants, GivesBack}
use Rattle.attribution.proofs.Deciding.{grants_lease}
use Rattle.auditor.specs.Walks.{AreReleases}
use Rattle.auditor.proofs.Given.{Contains-get}
use Rattle.evidence_report.specs.declared.mark.LineReading.{LineReading}
use Rattle.evidence_report.specs.declared.piece_report.PieceReleases.{PieceReleases}
use Rattle.evidence_report.specs.declared.piece_report.ReleaseReport.{ReleaseReport}
use Rattle.evidence_report.specs.declared.piece_report.ReportedGrant.{ReportedGrant}
use Rattle.evidence_report.specs.Lines.{AreOnce, AreExactly}
use Rattle.evidence_report.specs.Marks.{Reads, Exists, IsGrantedAt, mark_of}
use Rattle.evidence_report.specs.Pieces.{releases_in, IsReleaseReport, AreReportsOf, AreReleaseReports}
use Rattle.evidence_report.specs.Pieces.{EndsDelegation, EndsGrant, IsTold}
use Rattle.evidence_report.specs.Reports.{AreShown}
use Rattle.evidence_report.proofs.Pushed.{get_pushed}
use Rattle.evidence_report.proofs.Told.{same_reports}

-- ---- one for each of a list

pub record AreShownSoFar {X Y : Type 0} (Shows : X → Y → Type 0) (xs : List X) (ys : List Y) (i : ℕ) : Type 0 where
  pub count : length ys ≡ i
  pub each : (j : ℕ) (x : X) (y : Y) → slice_get xs j ≡ Some x → slice_get ys j ≡ Some y → Shows x y

module _ {X Y : Type 0} (Shows : X → Y → Type 0) (xs : List X) where
  pub none_shown : AreShownSoFar Shows xs [] 0
  none_shown = record { count = refl; each = λ j x y a b. absurd (cc) }

  pub one_shown : (ys : List Y) (i : ℕ) (x : X) (y : Y) → slice_get xs i ≡ Some x → Shows x y
      → AreShownSoFar Shows xs ys i → AreShownSoFar Shows xs (ys ++ y ∷ []) (i + 1)
  one_shown ys i x y at shows h = record {
    count = (let n = h.count in omega (arith, length-append ys (y ∷ [])));
    each = λ j u v a b. elim (get_pushed ys y j v b) [
      | inl old ↦ h.each j u v a old
      | inr new ↦
          let same : j ≡ i = new.0 ∙ h.count in
          let e : Some x ≡ Some u = sym at ∙ (ap (slice_get xs) (sym same) ∙ a) in
          let is : x ≡ u = cc in
          subst (λ (w : X). Shows w v) is (subst (Shows x) new.1 shows)
    ];
  }

  pub all_shown : (ys : List Y) (i : ℕ) → i ≡ length xs → AreShownSoFar Shows xs ys i → AreShown Shows xs ys
  all_shown ys i e h = record { count = h.count ∙ e; each = h.each }

-- ---- the releases of a delegation

pub record IsGathered (given refs left : List Ref) : Type 0 where
  pub whole : given ≡ refs ++ left

pub none_gathered : (given : List Ref) → IsGathered given [] given
none_gathered given = record { whole = refl }

pub one_gathered : (given refs left more : List Ref) (r : Ref) → left ≡ r ∷ more → IsGathered given refs left
    → IsGathered given (refs ++ r ∷ []) more
one_gathered given refs left more r e h = record {
  whole = h.whole ∙ (ap (λ (rs : List Ref). refs ++ rs) e ∙ sym (append_assoc refs (r ∷ []) more));
}

all_gathered : (given refs left : List Ref) → left ≡ [] → IsGathered given refs left → given ≡ refs
all_gathered given refs left e h = h.whole ∙ (ap (λ (rs : List Ref). refs ++ rs) e ∙ append-nil refs)

pub releases_once : (js : Journals) (d : Delegation) (given refs left once : List Ref) → AreReleases js d given
    → left ≡ [] → IsGathered given refs left → AreOnce refs once → AreReleases js d once
releases_once js d given refs left once h e all same =
    let is = all_gathered given refs left e all in
    let there = subst (AreReleases js d) is h in
    record {
      all = λ r back. (same.same r).0 (there.all r back);
      only = λ r has. there.only r ((same.same r).1 has);
    }

-- ---- a report of each release

pub record AreReportedSoFar (js : Journals) (skew : ℕ) (p : Piece) (refs : List Ref) (shown : List ReleaseReport) (i : ℕ)
    : Type 0 where
  pub lines : releases_in shown ≡ take i refs
  pub each : (s : ReleaseReport) → Has shown s → IsReleaseReport js skew p s

none_in : {X : Type 0} (x : X) → Has [] x → ⊥
none_in x h = let lt = h.1 in absurd (omega arith)

-- the mark of a line that is named
mark_by : (js : Journals) (r : Ref) (m : LineReading) (o : Option Line) → line_of js r ≡ o
    → option_map (λ l. record { at = r; reading = l.reading }) o ≡ Some m → (m.at ≡ r) × Reads js r m.reading
mark_by js r m None e is = absurd (cc)
mark_by js r m (Some l) e is =
    let same : record { at = r; reading = l.reading } ≡ m = cc in
    (sym (ap (λ (k : LineReading). k.at) same), (l, line_names js r l e, ap (λ (k : LineReading). k.reading) same))

pub marked : (js : Journals) (r : Ref) (m : LineReading) → Some m ≡ mark_of js r → (m.at ≡ r) × Reads js r m.reading
marked js r m e = mark_by js r m (line_of js r) refl (sym e)

pub reads_marked : (js : Journals) (r : Ref) (m : LineReading) → Some m ≡ mark_of js r → Reads js m.at m.reading
reads_marked js r m e = let at = marked js r m e in subst (λ (x : Ref). Reads js x m.reading) (sym at.0) at.1

unmarked_by : (js : Journals) (r : Ref) (l : Line) → None ≡ mark_of js r → line_of js r ≡ Some l → ⊥
unmarked_by js r l e is =
    let m : LineReading = record { at = r; reading = l.reading } in
    let f : mark_of js r ≡ Some m = ap (option_map (λ (l : Line). record { at = r; reading = l.reading })) is in
    let g : None ≡ Some m = e ∙ f in
    cc

module _ (js : Journals) (skew : ℕ) (p : Piece) (refs : List Ref) where
  pub none_reported : AreReportedSoFar js skew p refs [] 0
  none_reported = record { lines = refl; each = λ s h. absurd (none_in s h) }

  pub one_reported : (shown : List ReleaseReport) (i : ℕ) (d : Ref) (m : LineReading) (s : ReleaseReport) → i < length refs
      → Some m ≡ mark_of js (get_or refs i d) → s.release ≡ m → IsReleaseReport js skew p s
      → AreReportedSoFar js skew p refs shown i → AreReportedSoFar js skew p refs (shown ++ s ∷ []) (i + 1)
  one_reported shown i d m s lt e is report h = record {
    lines = map-append (λ (x : ReleaseReport). x.release.at) shown (s ∷ [])
        ∙ (ap (λ (rs : List Ref). rs ++ s.release.at ∷ []) h.lines
        ∙ (ap (λ (r : Ref). take i refs ++ r ∷ []) (ap (λ (x : LineReading). x.at) is ∙ (marked js (get_or refs i d) m e).0)
        ∙ sym (take_more refs i d lt)));
    each = λ x has. elim (Contains-push_cases shown s x has) [
      | inl old ↦ h.each x old
      | inr same ↦ subst (IsReleaseReport js skew p) same report
    ];
  }

  module _ (there : (r : Ref) → Has refs r → Exists js r) where
    pub none_missing : (i : ℕ) (d : Ref) → i < length refs → None ≡ mark_of js (get_or refs i d) → ⊥
    none_missing i d lt e =
        let line = there (get_or refs i d) (Contains-get refs i (get_or refs i d) (slice_get-get_or refs i d lt)) in
        unmarked_by js (get_or refs i d) line.0 e (names_line js (get_or refs i d) line.0 line.1)

  pub all_reported : (shown : List ReleaseReport) (i : ℕ) → length refs ≤ i → AreReportedSoFar js skew p refs shown i
      → AreReportsOf js skew p refs shown
  all_reported shown i le h = record { lines = h.lines ∙ take_all i refs le; each = h.each }

-- ---- those of what a grant gave

pub one_lease : (js : Journals) (r : Ref) (g h : Lease) → Grants js r g → Grants js r h → g ≡ h
one_lease js r g h a b = let x : Some g ≡ Some h = sym (grants_lease js r g a) ∙ grants_lease js r h b in cc

module _ (js : Journals) (skew : ℕ) (p : Piece) where
  pub by_grant : (granted : ReportedGrant) (d : Delegation) (shown : PieceReleases)
      → IsGrantedAt js p.grant (Some granted) → d ≡ of_lease granted.lease
      → AreReleaseReports js skew p (EndsDelegation js d) shown → AreReleaseReports js skew p (EndsGrant js p) shown
  by_grant granted d shown grants is h =
      same_reports js skew p (EndsDelegation js d) (EndsGrant js p) shown
      (λ r back. (granted.lease, grants.0, subst (GivesBack js r) is back))
      (λ r ends. subst (GivesBack js r) (ap of_lease (one_lease js p.grant ends.0 granted.lease ends.1 grants.0) ∙ sym is)
      ends.2) h

  pub by_nothing : (shown : PieceReleases) → shown.told.items ≡ [] → shown.more ≡ 0 → IsGrantedAt js p.grant None
      → AreReleaseReports js skew p (EndsGrant js p) shown
  by_nothing shown none zero n = record {
    told = subst (λ (xs : List ReleaseReport). AreExactly (IsTold (EndsGrant js p) p) (releases_in xs)) (sym none)
        (exactly_none (IsTold (EndsGrant js p) p) (λ r is. n is.0.0 is.0.1));
    each = λ s has. absurd (none_in s (subst (λ (xs : List ReleaseReport). Has xs s) none has));
    ending = [];
    whole = exactly_none (EndsGrant js p) (λ r ends. n ends.0 ends.1);
    counted = (let empty = ap (length {A = ReleaseReport}) none in omega (arith, empty, zero));
  }
    where
      exactly_none : (P : Ref → Type 0) → ((r : Ref) → P r → ⊥) → AreExactly P []
      exactly_none P n = record {
        all = λ r p. absurd (n r p);
        only = λ r has. absurd (none_in r has);
        once = λ i j r s lt a b. absurd (cc);
      }
