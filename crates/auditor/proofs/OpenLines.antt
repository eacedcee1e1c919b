-- Whether lines came after an open line.
use Rattle.std.specs.Prelude.{◌≡◌, ℕ, ◌+◌, ◌≤◌, ◌↔◌, IsTrue, Bool, true, false, Some, None, ℤ, All, pos, ◌<ℤ◌}
use Rattle.std.proofs.Common.{sym, ◌∙◌, ap, arith, refl}
use Rattle.std.proofs.lemmas.Int.{ints}
use Rattle.binding_rules.specs.declared.role.Role.{Role}
use Rattle.binding_rules.specs.declared.role.Role.TheVariants.{Primary, Secondary}
use Rattle.binding_rules.specs.Role.{partner_of}
use Rattle.journal_lines.specs.declared.line.Line.{Line}
use Rattle.causal_order.specs.declared.certificate.Certificate.{Certificate}
use Rattle.causal_order.specs.declared.certificate.Piece.{Piece}
use Rattle.causal_order.specs.declared.reference.Ref.{Ref}
use Rattle.causal_order.specs.Journals.{Journals, Names, open_of, line_of}
use Rattle.causal_order.proofs.Deciding.{line_names, names_line}
use Rattle.causal_order.proofs.Walking.{one_earliest}
use Rattle.attribution.specs.Acceptance.{HasEarlier, IsAfterOpen, IsGrantedAfterOpen, IsPastPartner, IsPastOpen}
use Rattle.auditor.specs.Bounds.{IsEarliestAt}
use Rattle.auditor.specs.Opened.{IsClearOfOpen, IsPastOwn}

-- a reference names no line, or this one
none_named : (js : Journals) (r : Ref) (l : Line) → None ≡ line_of js r → Names js r l → ⊥
none_named js r l e n = let x : None ≡ Some l = e ∙ names_line js r l n in cc

one_named : (js : Journals) (r : Ref) (l m : Line) → Some l ≡ line_of js r → Names js r m → m.reading ≡ l.reading
one_named js r l m e n = let x : Some l ≡ Some m = e ∙ names_line js r m n in let is : l ≡ m = cc in
    sym (ap (λ (k : Line). k.reading) is)

module _ (js : Journals) (side : Role) (skew : ℕ) where
  pub after_open : (transit moment : ℕ) (l : Line) (b : Bool) → Some l ≡ line_of js (open_of side) → IsTrue b
      ↔ l.reading + skew + transit ≤ moment → IsTrue b ↔ IsAfterOpen js skew transit moment side
  after_open transit moment l b e d = (
    λ t. (l, line_names js (open_of side) l (sym e), d.0 t),
    λ h. d.1 (let same = one_named js (open_of side) l h.0 e h.1 in let le = h.2 in omega arith),
  )

  pub never_open : (transit moment : ℕ) → None ≡ line_of js (open_of side) → IsTrue false
      ↔ IsAfterOpen js skew transit moment side
  never_open transit moment e = (λ t. absurd (cc), λ h. absurd (none_named js (open_of side) h.0 e h.1))

  pub clear_of_open : (p : Piece) (l : Line) (b : Bool) (n m : ℤ) → Some l ≡ line_of js (open_of side)
      → IsEarliestAt js p.earliest p.grant skew (Some m) → n ≡ pos (l.reading + skew)
      → IsTrue b ↔ n <ℤ m → IsTrue b ↔ IsClearOfOpen js skew p side
  clear_of_open p l b n m e h late d = (
    λ t. (
      l,
      line_names js (open_of side) l (sym e),
      (h.0, h.1, (let lt = d.0 t in let is = h.2 in omega (arith, ints))),
    ),
    λ w. d.1 (
        let same = one_earliest js p.earliest p.grant p.grant h.0 w.2.0 h.1 w.2.1 in
        let read = one_named js (open_of side) l w.0 e w.1 in
        let is = h.2 in
        let lt = w.2.2 in
        omega (arith, ints)),
  )

  pub no_chain : (p : Piece) → IsEarliestAt js p.earliest p.grant skew None → IsTrue false
      ↔ IsClearOfOpen js skew p side
  no_chain p h = (λ t. absurd (cc), λ w. absurd (h w.2.0 w.2.1))

  pub no_open_line : (p : Piece) → None ≡ line_of js (open_of side) → IsTrue false ↔ IsClearOfOpen js skew p side
  no_open_line p e = (λ t. absurd (cc), λ w. absurd (none_named js (open_of side) w.0 e w.1))

module _ (js : Journals) (skew : ℕ) (p : Piece) where
  pub no_earlier_partner : (HasEarlier js (partner_of p.grant.side) → ⊥) → IsTrue true ↔ IsPastPartner js skew p
  no_earlier_partner n = (λ t. record { after = λ h. absurd (n h) }, λ h. refl)

  pub past_partner : (b : Bool) → HasEarlier js (partner_of p.grant.side) → IsTrue b
      ↔ IsGrantedAfterOpen js skew p (partner_of p.grant.side) → IsTrue b ↔ IsPastPartner js skew p
  past_partner b e d = (λ t. record { after = λ h. d.0 t }, λ h. d.1 (h.after e))

module _ (js : Journals) (skew transit : ℕ) (c : Certificate) where
  pub no_earlier_own : (side : Role) → (HasEarlier js side → ⊥) → IsTrue true ↔ IsPastOwn js skew transit c side
  no_earlier_own side n = (λ t. record { after = λ h. absurd (n h) }, λ h. refl)

  pub past_own : (side : Role) (b : Bool) → HasEarlier js side → IsTrue b ↔ IsAfterOpen js skew transit c.from side
      → IsTrue b ↔ IsPastOwn js skew transit c side
  past_own side b e d = (λ t. record { after = λ h. d.0 t }, λ h. d.1 (h.after e))

  pub opened_by_pieces : (b : Bool) → IsPastOwn js skew transit c Primary → IsPastOwn js skew transit c Secondary
      → IsTrue b ↔ All (IsPastPartner js skew) c.pieces → IsTrue b ↔ IsPastOpen js skew transit c
  opened_by_pieces b p q d = (
    λ t. record {
      interval = λ side. (elim side as (λ x. IsPastOwn js skew transit c x) [
        | Primary ↦ p
        | Secondary ↦ q
      ]).after;
      pieces = d.0 t;
    },
    λ h. d.1 h.pieces,
  )

  pub not_own : (side : Role) → (IsPastOwn js skew transit c side → ⊥) → IsTrue false ↔ IsPastOpen js skew transit c
  not_own side n = (λ t. absurd (cc), λ h. absurd (n (record { after = h.interval side })))
