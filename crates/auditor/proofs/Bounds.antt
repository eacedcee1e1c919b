-- What a chain's bounds say of the line at its end.
use Rattle.std.specs.Prelude.{◌≡◌, ℕ, ◌↔◌, IsTrue, Bool, false, List, Option, Some, None, ℤ, pos, ◌+ℤ◌, ◌≤ℤ◌}
use Rattle.std.proofs.Common.{sym, ◌∙◌, subst, arith, inl, inr}
use Rattle.std.proofs.lemmas.Int.{ints}
use Rattle.causal_order.specs.declared.reference.Ref.{Ref}
use Rattle.causal_order.specs.Journals.{Journals}
use Rattle.causal_order.specs.Order.{WrittenBy, WrittenFrom}
use Rattle.causal_order.specs.Tests.{first_of_chain, last_of_chain}
use Rattle.causal_order.specs.Bounds.{IsLatest, IsEarliest}
use Rattle.causal_order.proofs.Walking.{first_from, last_from, one_latest, one_earliest}
use Rattle.attribution.specs.declared.delegation.Lasting.{Lasting}
use Rattle.attribution.specs.declared.delegation.Lasting.TheVariants.{For, Until}
use Rattle.auditor.specs.Bounds.{IsLatestAt, IsEarliestAt, LastsTo, IsSurelyOver, IsWrittenBy, IsReachedBy}
use Rattle.auditor.specs.Bounds.{IsWrittenFrom, IsOver, IsLasting}

-- The bound of a chain from the line.
pub latest_at : (js : Journals) (chain : List Ref) (at : Ref) (skew : ℕ) (o : Option ℤ)
    → Some at ≡ first_of_chain chain → IsLatest js chain skew o → IsLatestAt js chain at skew o
latest_at js chain at skew None e h = λ x w. h w.leads.links
latest_at js chain at skew (Some m) e h =
    let same : Some h.0 ≡ Some at = sym (first_from js chain h.0 h.1 h.2) ∙ sym e in
    let is : h.0 ≡ at = cc in
    (h.1, subst (λ (r : Ref). WrittenBy js chain r h.1) is h.2, h.3)

pub no_chain_from : (js : Journals) (chain : List Ref) (at : Ref) (skew : ℕ) → first_of_chain chain ≡ None
    → IsLatestAt js chain at skew None
no_chain_from js chain at skew e = λ x w. let f : None ≡ Some at = sym e ∙ first_from js chain at x w in cc

pub begins_elsewhere : (js : Journals) (chain : List Ref) (at begin : Ref) (skew : ℕ)
    → Some begin ≡ first_of_chain chain → (begin ≡ at → ⊥) → IsLatestAt js chain at skew None
begins_elsewhere js chain at begin skew e n = λ x w. let f : Some begin ≡ Some at = e ∙ first_from js chain at x w in
    n (let is : begin ≡ at = cc in is)

-- The bound of a chain to the line.
pub earliest_at : (js : Journals) (chain : List Ref) (at : Ref) (skew : ℕ) (o : Option ℤ)
    → Some at ≡ last_of_chain chain → IsEarliest js chain skew o → IsEarliestAt js chain at skew o
earliest_at js chain at skew None e h = λ x w. h w.leads.links
earliest_at js chain at skew (Some m) e h =
    let same : Some h.0 ≡ Some at = sym (last_from js chain h.0 h.1 h.2) ∙ sym e in
    let is : h.0 ≡ at = cc in
    (h.1, subst (λ (r : Ref). WrittenFrom js chain r h.1) is h.2, h.3)

pub no_chain_to : (js : Journals) (chain : List Ref) (at : Ref) (skew : ℕ) → last_of_chain chain ≡ None
    → IsEarliestAt js chain at skew None
no_chain_to js chain at skew e = λ x w. let f : None ≡ Some at = sym e ∙ last_from js chain at x w in cc

pub ends_elsewhere : (js : Journals) (chain : List Ref) (at end : Ref) (skew : ℕ) → Some end ≡ last_of_chain chain
    → (end ≡ at → ⊥) → IsEarliestAt js chain at skew None
ends_elsewhere js chain at end skew e n = λ x w. let f : Some end ≡ Some at = e ∙ last_from js chain at x w in
    n (let is : end ≡ at = cc in is)

-- ---- what follows from a bound

module _ (js : Journals) (chain : List Ref) (at : Ref) (skew : ℕ) where
  pub before_by_latest : (b : Bool) (m : ℤ) (moment : ℕ) → IsLatestAt js chain at skew (Some m) → IsTrue b
      ↔ m ≤ℤ pos moment → IsTrue b ↔ IsWrittenBy js chain at skew moment
  before_by_latest b m moment h d = (
    λ t. (h.0, h.1, (let le = d.0 t in let is = h.2 in omega (arith, ints))),
    λ w. d.1 (let same = one_latest js chain at at h.0 w.0 h.1 w.1 in let is = h.2 in let le = w.2 in
        omega (arith, ints)),
  )

  pub never_before : (moment : ℕ) → IsLatestAt js chain at skew None → IsTrue false
      ↔ IsWrittenBy js chain at skew moment
  never_before moment h = (λ t. absurd (cc), λ w. absurd (h w.0 w.1))

  pub after_by_earliest : (b : Bool) (m : ℤ) (moment : ℕ) → IsEarliestAt js chain at skew (Some m) → IsTrue b
      ↔ pos moment ≤ℤ m → IsTrue b ↔ IsWrittenFrom js chain at skew moment
  after_by_earliest b m moment h d = (
    λ t. (h.0, h.1, (let le = d.0 t in let is = h.2 in omega (arith, ints))),
    λ w. d.1 (let same = one_earliest js chain at at h.0 w.0 h.1 w.1 in let is = h.2 in let le = w.2 in
        omega (arith, ints)),
  )

  pub never_after : (moment : ℕ) → IsEarliestAt js chain at skew None → IsTrue false
      ↔ IsWrittenFrom js chain at skew moment
  never_after moment h = (λ t. absurd (cc), λ w. absurd (h w.0 w.1))

  pub reached_by_latest : (b : Bool) (m : ℤ) (transit moment : ℕ) → IsLatestAt js chain at skew (Some m) → IsTrue b
      ↔ (m +ℤ pos transit) ≤ℤ pos moment
      → IsTrue b ↔ IsReachedBy js chain at skew transit moment
  reached_by_latest b m transit moment h d = (
    λ t. (h.0, h.1, (let le = d.0 t in let is = h.2 in omega (arith, ints))),
    λ w. d.1 (let same = one_latest js chain at at h.0 w.0 h.1 w.1 in let is = h.2 in let le = w.2 in
        omega (arith, ints)),
  )

  pub never_reached : (transit moment : ℕ) → IsLatestAt js chain at skew None → IsTrue false
      ↔ IsReachedBy js chain at skew transit moment
  never_reached transit moment h = (λ t. absurd (cc), λ w. absurd (h w.0 w.1))

  pub ended_by_latest : (b : Bool) (m : ℤ) (l : Lasting) (transit moment : ℕ) → IsLatestAt js chain at skew (Some m)
      → IsTrue b ↔ IsSurelyOver l m skew transit moment → IsTrue b ↔ IsOver js chain at l skew transit moment
  ended_by_latest b m (For valid) transit moment h d = (
    λ t. (let e = d.0 t in (h.0, h.1, (e.0, (let le = e.1 in let is = h.2 in omega (arith, ints))))),
    λ w. d.1 (
      w.2.0,
      (let same = one_latest js chain at at h.0 w.0 h.1 w.1 in let is = h.2 in let le = w.2.1 in
          omega (arith, ints)),
    ),
  )
  ended_by_latest b m (Until end) transit moment h d = (λ t. (h.0, h.1, d.0 t), λ w. d.1 w.2)

  pub never_ended : (l : Lasting) (transit moment : ℕ) → IsLatestAt js chain at skew None → IsTrue false
      ↔ IsOver js chain at l skew transit moment
  never_ended l transit moment h = (λ t. absurd (cc), λ w. absurd (h w.0 w.1))

  pub lasts_by_earliest : (b : Bool) (m : ℤ) (valid moment : ℕ) → IsEarliestAt js chain at skew (Some m) → IsTrue b
      ↔ LastsTo valid m moment → IsTrue b ↔ IsLasting js chain at valid skew moment
  lasts_by_earliest b m valid moment h d = (
    λ t. (h.0, h.1, elim (d.0 t) [ inl e ↦ inl e | inr le ↦ inr (let is = h.2 in omega (arith, ints)) ]),
    λ w. d.1 (elim w.2 [
      | inl e ↦ inl e
      | inr le ↦ inr (let same = one_earliest js chain at at h.0 w.0 h.1 w.1 in
          let is = h.2 in omega (arith, ints))
    ]),
  )

  pub never_lasts : (valid moment : ℕ) → IsEarliestAt js chain at skew None → IsTrue false
      ↔ IsLasting js chain at valid skew moment
  never_lasts valid moment h = (λ t. absurd (cc), λ w. absurd (h w.0 w.1))
