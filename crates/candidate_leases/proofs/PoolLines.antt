-- Which lines say a pool.
use Rattle.std.specs.Prelude.{◌≡◌, ℕ, ◌+◌, ◌<◌, ◌≤◌, Some, None}
use Rattle.std.proofs.Common.{arith, sym, ◌∙◌, ap, subst, inl, inr, refl}
use Rattle.std.proofs.lemmas.Bool.{cases_lt}
use Rattle.prefix_range.specs.Prefix.{Prefix, Overlaps}
use Rattle.binding_rules.specs.declared.role.Role.{Role}
use Rattle.binding_rules.specs.declared.role.Role.TheVariants.{Primary, Secondary}
use Rattle.journal_lines.specs.declared.event.Event.TheVariants.{Pool}
use Rattle.journal_lines.specs.declared.line.Line.{Line}
use Rattle.causal_order.specs.declared.reference.Ref.{Ref}
use Rattle.causal_order.specs.Journals.{Journals, Names, line_of}
use Rattle.causal_order.proofs.Deciding.{line_names, names_line}
use Rattle.candidate_leases.specs.declared.pools.PoolLine.{PoolLine}
use Rattle.candidate_leases.specs.Conditions.{IsMet, IsUnmetOn, IsUnmet}

module _ (js : Journals) (at : Ref) (prefix : Prefix) (least : ℕ) where
  pub no_line : None ≡ line_of js at → (pool : PoolLine) (h : IsMet js prefix least pool) → h.line ≡ at → ⊥
  no_line e pool h same =
      let named = subst (λ (r : Ref). Names js r h.is.1.0) same h.is.1.1 in
      let x : None ≡ Some h.is.1.0 = e ∙ names_line js at h.is.1.0 named in
      absurd (cc)

  -- what the line says, where a pool that it says is met
  says : (l : Line) → Some l ≡ line_of js at → (pool : PoolLine) (h : IsMet js prefix least pool) → h.line ≡ at
      → l.event ≡ Pool pool.prefix pool.unit_length
  says l e pool h same =
      let named = subst (λ (r : Ref). Names js r h.is.1.0) same h.is.1.1 in
      let x : Some l ≡ Some h.is.1.0 = e ∙ names_line js at h.is.1.0 named in
      let one : l ≡ h.is.1.0 = cc in
      ap (λ (k : Line). k.event) one ∙ h.is.1.2

  pub no_pool : (l : Line) → Some l ≡ line_of js at → ((p : Prefix) (n : ℕ) → l.event ≡ Pool p n → ⊥)
      → (pool : PoolLine) (h : IsMet js prefix least pool) → h.line ≡ at → ⊥
  no_pool l e not pool h same = not pool.prefix pool.unit_length (says l e pool h same)

  pub not_met : (l : Line) (said : PoolLine) → Some l ≡ line_of js at
      → l.event ≡ Pool said.prefix said.unit_length → ((Overlaps said.prefix prefix × (least ≤ said.unit_length)) → ⊥)
      → (pool : PoolLine) (h : IsMet js prefix least pool) → h.line ≡ at → ⊥
  not_met l said e is not pool h same =
      let event : Pool said.prefix said.unit_length ≡ Pool pool.prefix pool.unit_length =
      sym is ∙ says l e pool h same in
      let one : pool.prefix ≡ said.prefix = cc in
      let length : pool.unit_length ≡ said.unit_length = cc in
      not (subst (λ (x : Prefix). Overlaps x prefix) one h.overlaps, subst (λ (x : ℕ). least ≤ x) length h.long)

  pub is_met : (l : Line) (said : PoolLine) → Some l ≡ line_of js at
      → l.event ≡ Pool said.prefix said.unit_length → at.number ≤ 17 → Overlaps said.prefix prefix
      → least ≤ said.unit_length → IsMet js prefix least said
  is_met l said e is within over long = record {
    line = at;
    is = (within, (l, line_names js at l (sym e), is));
    overlaps = over;
    long = long;
  }

-- none of the lines of the side below this number
pub record NoneMetBelow (js : Journals) (prefix : Prefix) (least : ℕ) (side : Role) (number : ℕ) : Type 0 where
  pub none : (pool : PoolLine) (h : IsMet js prefix least pool) → h.line.side ≡ side → h.line.number < number → ⊥

module _ (js : Journals) (prefix : Prefix) (least : ℕ) (side : Role) where
  -- a reference names no line 0
  pub none_first : NoneMetBelow js prefix least side 1
  none_first = record { none = λ pool h same lt. (let named = h.is.1.1.0 in absurd (omega arith)) }

  same_ref : (r : Ref) (number : ℕ) → r.side ≡ side → r.number ≡ number → r ≡ record { side = side; number = number }
  same_ref r number a b =
      ap (λ (s : Role). let x : Ref = record { side = s; number = r.number } in x) a
      ∙ ap (λ (n : ℕ). let x : Ref = record { side = side; number = n } in x) b

  pub none_next : (number : ℕ) → NoneMetBelow js prefix least side number
      → ((pool : PoolLine) (h : IsMet js prefix least pool) → h.line ≡ record { side = side; number = number } → ⊥)
      → NoneMetBelow js prefix least side (number + 1)
  none_next number below not = record {
    none = λ pool h same lt. elim (cases_lt h.line.number number) [
      | inl less ↦ below.none pool h same less
      | inr ge ↦ not pool h (same_ref h.line number same (omega arith))
    ];
  }

  pub none_at_all : (number : ℕ) → 17 < number → NoneMetBelow js prefix least side number
      → IsUnmetOn js prefix least side
  none_at_all number lt below = record {
    none = λ pool h same. below.none pool h same (let le = h.is.0 in omega arith);
  }

pub none_on_both : (js : Journals) (prefix : Prefix) (least : ℕ) → IsUnmetOn js prefix least Primary
    → IsUnmetOn js prefix least Secondary → IsUnmet js prefix least
none_on_both js prefix least first second = record { none = λ pool h. by_side pool h h.line.side refl } where
  by_side : (pool : PoolLine) (h : IsMet js prefix least pool) (side : Role) → h.line.side ≡ side → ⊥
  by_side pool h Primary is = first.none pool h is
  by_side pool h Secondary is = second.none pool h is
