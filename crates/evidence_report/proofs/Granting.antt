-- What lines grant, and tell of.
use Rattle.std.specs.Prelude.{◌≡◌, ◌↔◌, IsTrue, Bool, false, Some, None}
use Rattle.std.proofs.Common.{sym, ◌∙◌, ap, refl, subst}
use Rattle.journal_lines.specs.declared.event.Event.TheVariants.{Grant}
use Rattle.journal_lines.specs.declared.event.Lease.{Lease}
use Rattle.journal_lines.specs.declared.line.Line.{Line}
use Rattle.causal_order.specs.declared.reference.Ref.{Ref}
use Rattle.causal_order.specs.Journals.{Journals, Names, line_of}
use Rattle.causal_order.proofs.Deciding.{line_names, names_line}
use Rattle.attribution.specs.declared.delegation.Delegation.{Delegation}
use Rattle.attribution.specs.Delegation.{told_by}
use Rattle.attribution.specs.Acceptance.{Tells, GivesBack}
use Rattle.attribution.proofs.Deciding.{tells_told}
use Rattle.evidence_report.specs.declared.foreign_report.ReportedDelegation.{ReportedDelegation}
use Rattle.evidence_report.specs.Marks.{IsGrantedAt, IsToldAt}
use Rattle.evidence_report.specs.Others.{EndsTold}

-- no line stands there, or one whose event is this
no_line : (js : Journals) (r : Ref) (l : Line) → line_of js r ≡ None → Names js r l → ⊥
no_line js r l e n = let x : None ≡ Some l = sym e ∙ names_line js r l n in cc

one_line : (js : Journals) (r : Ref) (l m : Line) → line_of js r ≡ Some l → Names js r m → m ≡ l
one_line js r l m e n = let x : Some l ≡ Some m = sym e ∙ names_line js r m n in cc

module _ (js : Journals) (r : Ref) where
  pub no_line_grants : line_of js r ≡ None → IsGrantedAt js r None
  no_line_grants e = λ g h. no_line js r h.0 e h.1

  pub grants_nothing : (l : Line) → line_of js r ≡ Some l → ((g : Lease) → l.event ≡ Grant g → ⊥)
      → IsGrantedAt js r None
  grants_nothing l e n = λ g h. n g (ap (λ (m : Line). m.event) (sym (one_line js r l h.0 e h.1)) ∙ h.2)

  pub line_grants : (l : Line) (g : Lease) → line_of js r ≡ Some l → l.event ≡ Grant g
      → IsGrantedAt js r (Some (record { lease = g; reading = l.reading }))
  line_grants l g e is = let names = line_names js r l e in ((l, names, is), (l, names, refl))

  pub no_line_tells : line_of js r ≡ None → IsToldAt js r None
  no_line_tells e = λ d h. no_line js r h.0 e h.1

  pub tells_nothing : (l : Line) → line_of js r ≡ Some l → told_by l.event ≡ None → IsToldAt js r None
  tells_nothing l e n = λ d h.
      let same = one_line js r l h.0 e h.1 in
      let x : None ≡ Some d = sym n ∙ (ap (λ (m : Line). told_by m.event) (sym same) ∙ h.2) in cc

  pub line_tells : (l : Line) (d : Delegation) → line_of js r ≡ Some l → told_by l.event ≡ Some d
      → IsToldAt js r (Some (record { delegation = d; reading = l.reading }))
  line_tells l d e is = let names = line_names js r l e in ((l, names, is), (l, names, refl))

-- ---- what a release gives back

pub one_told : (js : Journals) (r : Ref) (d f : Delegation) → Tells js r d → Tells js r f → f ≡ d
one_told js r d f a b = let x : Some d ≡ Some f = sym (tells_told js r d a) ∙ tells_told js r f b in cc

pub ends_by_told : (js : Journals) (r release : Ref) (t : ReportedDelegation) (b : Bool) → IsToldAt js r (Some t) → IsTrue b
    ↔ GivesBack js release t.delegation → IsTrue b ↔ EndsTold js r release
ends_by_told js r release t b h d = (
  λ y. (t.delegation, h.0, d.0 y),
  λ e. d.1 (subst (λ (x : Delegation). GivesBack js release x) (one_told js r t.delegation e.0 h.0 e.1) e.2),
)

pub ends_nothing : (js : Journals) (r release : Ref) → IsToldAt js r None → IsTrue false ↔ EndsTold js r release
ends_nothing js r release n = (λ y. absurd (cc), λ e. absurd (n e.0 e.1))
