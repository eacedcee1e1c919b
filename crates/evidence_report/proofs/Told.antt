-- Which releases are told of.
use Rattle.std.specs.Prelude.{◌≡◌, ◌⊎◌, ℕ, ◌+◌, ◌<◌, ◌≤◌, List, [], ◌∷◌, ◌++◌, length, Some, slice_get, Contains as Has}
use Rattle.std.proofs.Common.{sym, ◌∙◌, ap, subst, refl, arith, inl, inr, get_or}
use Rattle.std.proofs.lemmas.Bool.{cases_lt}
use Rattle.std.proofs.lemmas.List.{length-map}
use Rattle.std.proofs.lemmas.Option.{slice_get-get_or}
use Rattle.std.proofs.lemmas.List.Elements.{Contains-append_left, Contains-push, Contains-push_cases}
use Rattle.causal_order.specs.declared.reference.Ref.{Ref}
use Rattle.causal_order.specs.declared.certificate.Piece.{Piece}
use Rattle.causal_order.specs.declared.certificate.Clear.{Clear}
use Rattle.causal_order.specs.Journals.{Journals}
use Rattle.causal_order.specs.LineOrder.{IsLeast}
use Rattle.causal_order.proofs.LineOrder.{one_least}
use Rattle.attribution.specs.declared.delegation.Delegation.{Delegation}
use Rattle.attribution.specs.Acceptance.{GivesBack}
use Rattle.auditor.specs.Walks.{AreReleases}
use Rattle.auditor.proofs.Given.{Contains-get, get-Contains}
use Rattle.evidence_report.specs.declared.piece_report.ReleaseReport.{ReleaseReport}
use Rattle.evidence_report.specs.declared.piece_report.PieceReleases.{PieceReleases}
use Rattle.evidence_report.specs.Lines.{AreExactly, AreOnce, AreRising, IsMissing}
use Rattle.evidence_report.specs.Marks.{Exists}
use Rattle.evidence_report.specs.Pieces.{NamesRelease, IsUnnamed, IsNamedRelease, IsTold, releases_in}
use Rattle.evidence_report.specs.Pieces.{EndsDelegation, AreReportsOf, AreReleaseReports}
use Rattle.evidence_report.proofs.InOrder.{no_more, exactly_once, exactly_same}

-- ---- those that entries name

-- of the first i entries those that name a release
pub record AreNamedSoFar (Ends : Ref → Type 0) (entries : List Clear) (refs : List Ref) (i : ℕ) : Type 0 where
  pub all : (k : ℕ) (c : Clear) → k < i → slice_get entries k ≡ Some c → Ends c.release → Has refs c.release
  pub only : (r : Ref) → Has refs r → Ends r × ((c : Clear) × Has entries c × (c.release ≡ r))

none_in : (r : Ref) → Has [] r → ⊥
none_in r h = let lt = h.1 in absurd (omega arith)

module _ (Ends : Ref → Type 0) (entries : List Clear) where
  pub none_named : AreNamedSoFar Ends entries [] 0
  none_named = record { all = λ k c lt e ends. absurd (omega arith); only = λ r has. absurd (none_in r has) }

  module _ (refs : List Ref) (i : ℕ) (c : Clear) (here : slice_get entries i ≡ Some c)
      (h : AreNamedSoFar Ends entries refs i) where
    all_more : (next : List Ref) → ((r : Ref) → Has refs r → Has next r) → (Ends c.release → Has next c.release) → (k : ℕ)
        (d : Clear) → k < i + 1 → slice_get entries k ≡ Some d → Ends d.release → Has next d.release
    all_more next more new k d lt e ends = elim (cases_lt k i) [
      | inl less ↦ more d.release (h.all k d less e ends)
      | inr le ↦
          let same : i ≡ k = omega arith in
          let x : Some c ≡ Some d = sym here ∙ (ap (slice_get entries) same ∙ e) in
          let is : c ≡ d = cc in
          subst (λ (y : Clear). Has next y.release) is (new (subst (λ (y : Clear). Ends y.release) (sym is) ends))
    ]

    pub one_named : Ends c.release → AreNamedSoFar Ends entries (refs ++ c.release ∷ []) (i + 1)
    one_named ends = record {
      all = all_more (refs ++ c.release ∷ []) (λ r has. Contains-append_left refs (c.release ∷ []) r has)
          (λ yes. Contains-push refs c.release);
      only = λ r has. elim (Contains-push_cases refs c.release r has) [
        | inl old ↦ h.only r old
        | inr is ↦ (subst Ends is ends, (c, Contains-get entries i c here, is))
      ];
    }

    pub one_other : (Ends c.release → ⊥) → AreNamedSoFar Ends entries refs (i + 1)
    one_other not = record { all = all_more refs (λ r has. has) (λ yes. absurd (not yes)); only = h.only }

pub all_named : (Ends : Ref → Type 0) (p : Piece) (refs once : List Ref) (i : ℕ) → length p.clear ≤ i
    → AreNamedSoFar Ends p.clear refs i → AreOnce refs once → AreExactly (IsNamedRelease Ends p) once
all_named Ends p refs once i le h same = exactly_once (IsNamedRelease Ends p) refs once
    (λ r named.
    let at = get-Contains p.clear named.1.0 named.1.1 in
    let lt = at.1 in
    subst (Has refs) named.1.2 (h.all at.0 named.1.0 (omega arith) at.2
    (subst Ends (sym named.1.2) named.0)))
    h.only same

-- ---- those that are told of

pub least_same : (P Q : Ref → Type 0) (r : Ref) → ((s : Ref) → P s → Q s) → ((s : Ref) → Q s → P s) → IsLeast P r
    → IsLeast Q r
least_same P Q r to back h = (to r h.0, λ s before q. h.1 s before (back s q))

module _ (Ends : Ref → Type 0) (p : Piece) (refs named : List Ref) (all : AreExactly Ends refs)
    (some : AreExactly (IsNamedRelease Ends p) named) where
  pub named_are_some : (r : Ref) → Has named r → Has refs r
  named_are_some r has = all.all r (some.only r has).0

  pub told_without : (told : List Ref) → ((r : Ref) → Has refs r → Has named r) → AreOnce named told
      → AreExactly (IsTold Ends p) told
  told_without told same once = exactly_once (IsTold Ends p) named told (λ r is. same r (all.all r is.0))
      (λ r has. ((some.only r has).0, inl (some.only r has).1)) once

  module _ (u : Ref) (least : IsLeast (IsMissing refs named) u) where
    unnamed : IsLeast (IsUnnamed Ends p) u
    unnamed = least_same (IsMissing refs named) (IsUnnamed Ends p) u
        (λ s missing. (all.only s missing.0, λ names. missing.1 (some.all s (all.only s missing.0, names))))
        (λ s is. (all.all s is.0, λ has. is.1 (some.only s has).1)) least

    pub told_with : (told : List Ref) → AreOnce (named ++ u ∷ []) told → AreExactly (IsTold Ends p) told
    told_with told once = exactly_once (IsTold Ends p) (named ++ u ∷ []) told
        (λ r is. elim is.1 [
          | inl names ↦ Contains-append_left named (u ∷ []) r (some.all r (is.0, names))
          | inr first ↦ subst (Has (named ++ u ∷ [])) (one_least (IsUnnamed Ends p) u r unnamed first)
              (Contains-push named u)
        ])
        (λ r has. elim (Contains-push_cases named u r has) [
          | inl old ↦ ((some.only r old).0, inl (some.only r old).1)
          | inr is ↦ subst (IsTold Ends p) is (unnamed.0.0, inr unnamed)
        ]) once

-- ---- how many more there are

pub told_are_some : (Ends : Ref → Type 0) (p : Piece) (refs told : List Ref) → AreExactly Ends refs
    → AreExactly (IsTold Ends p) told → length told ≤ length refs
told_are_some Ends p refs told all h = no_more refs told all.once h.once (λ r has. all.all r (h.only r has).0)

-- each of them names a line
pub told_exist : (js : Journals) (d : Delegation) (p : Piece) (told : List Ref)
    → AreExactly (IsTold (EndsDelegation js d) p) told → (r : Ref) → Has told r → Exists js r
told_exist js d p told h r has = let ends = (h.only r has).0 in (ends.0, ends.1)

pub are_exactly : (js : Journals) (d : Delegation) (refs : List Ref) → AreReleases js d refs → AreRising refs
    → AreExactly (EndsDelegation js d) refs
are_exactly js d refs h rising = record { all = h.all; only = h.only; once = rising }

module _ (js : Journals) (skew : ℕ) (p : Piece) where
  pub counted_reports : (Ends : Ref → Type 0) (refs told : List Ref) (shown : PieceReleases) → AreExactly Ends refs
      → AreExactly (IsTold Ends p) told → AreReportsOf js skew p told shown.told.items
      → length refs ≡ length told + shown.more → AreReleaseReports js skew p Ends shown
  counted_reports Ends refs told shown all h reports count = record {
    told = subst (AreExactly (IsTold Ends p)) (sym reports.lines) h;
    each = reports.each;
    ending = refs;
    whole = all;
    counted = (let lines = sym (length-map shown.told.items (λ (s : ReleaseReport). s.release.at))
        ∙ ap (length {A = Ref}) reports.lines in omega (arith, lines, count));
  }

  pub same_reports : (P Q : Ref → Type 0) (shown : PieceReleases) → ((r : Ref) → P r → Q r) → ((r : Ref) → Q r → P r)
      → AreReleaseReports js skew p P shown → AreReleaseReports js skew p Q shown
  same_reports P Q shown to back h = record {
    told = exactly_same (IsTold P p) (IsTold Q p) (releases_in shown.told.items) (told_same P Q to back)
        (told_same Q P back to) h.told;
    each = h.each;
    ending = h.ending;
    whole = exactly_same P Q h.ending to back h.whole;
    counted = h.counted;
  }
    where
      told_same : (P Q : Ref → Type 0) → ((r : Ref) → P r → Q r) → ((r : Ref) → Q r → P r) → (r : Ref) → IsTold P p r
          → IsTold Q p r
      told_same P Q to back r is = (
        to r is.0,
        elim is.1 [
          | inl names ↦ inl names
          | inr first ↦ inr (least_same (IsUnnamed P p) (IsUnnamed Q p) r (λ s u. (to s u.0, u.1))
              (λ s u. (back s u.0, u.1)) first)
        ],
      )
