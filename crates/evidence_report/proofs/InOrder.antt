-- Lines that stand in order, and the first that is missing.
use Rattle.std.specs.Prelude.{◌≡◌, ℕ, ◌+◌, ◌<◌, ◌≤◌, List, [], ◌∷◌, length, Some, slice_get, Contains as Has}
use Rattle.std.proofs.Common.{zero, suc, sym, ◌∙◌, ap, subst, refl, arith, inl, inr, get_or}
use Rattle.std.proofs.lemmas.Bool.{cases_lt, cases_order}
use Rattle.std.proofs.lemmas.Option.{same_Some, slice_get_within, slice_get-get_or}
use Rattle.binding_rules.specs.declared.role.Role.{Role}
use Rattle.binding_rules.specs.declared.role.Role.TheVariants.{Primary, Secondary}
use Rattle.causal_order.specs.declared.reference.Ref.{Ref}
use Rattle.causal_order.specs.LineOrder.{ComesBefore, IsLeast}
use Rattle.causal_order.proofs.LineOrder.{ref_of}
use Rattle.auditor.proofs.Given.{Contains-get, get-Contains}
use Rattle.evidence_report.specs.Lines.{AreRising, AreExactly, AreOnce, IsMissing}

pub one_at : {X : Type 0} (xs : List X) (i : ℕ) → i < length xs → (x : X) × (slice_get xs i ≡ Some x)
one_at [] i lt = absurd (omega arith)
one_at (x ∷ xs) zero lt = (x, refl)
one_at (x ∷ xs) (suc i) lt = one_at xs i (omega arith)

-- ---- places

self_by : (x : Role) (n : ℕ) → ComesBefore (ref_of x n) (ref_of x n) → ⊥
self_by Primary n lt = omega arith
self_by Secondary n lt = omega arith

not_before_itself : (r : Ref) → ComesBefore r r → ⊥
not_before_itself r lt = self_by r.side r.number lt

both_by : (x y : Role) (m n : ℕ) → ComesBefore (ref_of x m) (ref_of y n) → ComesBefore (ref_of y n) (ref_of x m) → ⊥
both_by Primary Primary m n a b = omega arith
both_by Primary Secondary m n a b = absurd b
both_by Secondary Primary m n a b = absurd a
both_by Secondary Secondary m n a b = omega arith

not_both_ways : (r s : Ref) → ComesBefore r s → ComesBefore s r → ⊥
not_both_ways r s a b = both_by r.side s.side r.number s.number a b

module _ (refs : List Ref) (rising : AreRising refs) where
  -- a line that comes before another stands before it
  stands_before : (i j : ℕ) (r s : Ref) → slice_get refs i ≡ Some r → slice_get refs j ≡ Some s → ComesBefore r s → i < j
  stands_before i j r s a b lt = elim (cases_order i j) [
    | inl same ↦
        let x : Some r ≡ Some s = sym a ∙ (ap (slice_get refs) same ∙ b) in
        let is : r ≡ s = cc in
        absurd (not_before_itself s (subst (λ (y : Ref). ComesBefore y s) is lt))
    | inr other ↦ elim other [
      | inl less ↦ less
      | inr more ↦ absurd (not_both_ways r s lt (rising j i s r more b a))
    ]
  ]

  -- a line stands once
  stands_once : (i j : ℕ) (r : Ref) → slice_get refs i ≡ Some r → slice_get refs j ≡ Some r → i < j → ⊥
  stands_once i j r a b less = not_before_itself r (rising i j r r less a b)

-- ---- some of them

module _ (refs those : List Ref) (rising : AreRising refs) (those_rising : AreRising those)
    (some : (r : Ref) → Has those r → Has refs r) where
  stands_later : (j : ℕ) (r : Ref) → slice_get those j ≡ Some r → (m : ℕ) × (slice_get refs m ≡ Some r) × (j ≤ m)
  stands_later zero r e =
      let at = get-Contains refs r (some r (Contains-get those zero r e)) in
      (at.0, at.2, omega arith)
  stands_later (suc j) r e =
      let lt = slice_get_within those (suc j) r e in
      let before = one_at those j (omega arith) in
      let first = stands_later j before.0 before.1 in
      let at = get-Contains refs r (some r (Contains-get those (suc j) r e)) in
      let less = stands_before refs rising first.0 at.0 before.0 r first.1 at.2
      (those_rising j (suc j) before.0 r (omega arith) before.1 e) in
      let le = first.2 in
      (at.0, at.2, omega arith)

  pub no_more : length those ≤ length refs
  no_more = elim (cases_lt (length refs) (length those)) [
    | inl lt ↦
        let last = one_at those (length refs) lt in
        let at = stands_later (length refs) last.0 last.1 in
        let within = slice_get_within refs at.0 last.0 at.1 in
        let le = at.2 in
        absurd (omega arith)
    | inr le ↦ le
  ]

-- ---- the first that is missing

-- the first i lines stand at the same places in both
pub record AreSharedSoFar (refs those : List Ref) (i : ℕ) : Type 0 where
  pub each : (j : ℕ) (r : Ref) → j < i → slice_get refs j ≡ Some r → slice_get those j ≡ Some r

pub none_shared : (refs those : List Ref) → AreSharedSoFar refs those 0
none_shared refs those = record { each = λ j r lt e. absurd (omega arith) }

pub one_shared : (refs those : List Ref) (i : ℕ) (r : Ref) → slice_get refs i ≡ Some r → slice_get those i ≡ Some r
    → AreSharedSoFar refs those i → AreSharedSoFar refs those (i + 1)
one_shared refs those i r here there h = record {
  each = λ j s lt e. elim (cases_lt j i) [
    | inl less ↦ h.each j s less e
    | inr le ↦
        let same : i ≡ j = omega arith in
        let x : Some r ≡ Some s = sym here ∙ (ap (slice_get refs) same ∙ e) in
        subst (λ (k : ℕ). slice_get those k ≡ Some s) same (there ∙ x)
  ];
}

pub all_shared : (refs those : List Ref) (i : ℕ) → length refs ≤ i → AreSharedSoFar refs those i → (r : Ref)
    → Has refs r → Has those r
all_shared refs those i le h r has =
    let at = get-Contains refs r has in
    let lt = at.1 in
    Contains-get those at.0 r (h.each at.0 r (omega arith) at.2)

module _ (refs those : List Ref) (rising : AreRising refs) (those_rising : AreRising those)
    (some : (r : Ref) → Has those r → Has refs r) (i : ℕ) (x : Ref) (here : slice_get refs i ≡ Some x)
    (not_there : slice_get those i ≡ Some x → ⊥) (h : AreSharedSoFar refs those i) where
  -- it stands at none of those places
  at_none : (k : ℕ) → slice_get those k ≡ Some x → ⊥
  at_none k e = elim (cases_order k i) [
    | inl same ↦ not_there (subst (λ (n : ℕ). slice_get those n ≡ Some x) same e)
    | inr other ↦ elim other [
      | inl less ↦
          let within = slice_get_within refs i x here in
          let one = one_at refs k (omega arith) in
          let same : Some one.0 ≡ Some x = sym (h.each k one.0 less one.1) ∙ e in
          stands_once refs rising k i x (one.1 ∙ same) here less
      | inr more ↦
          let within = slice_get_within those k x e in
          let one = one_at those i (omega arith) in
          let before = those_rising i k one.0 x more one.1 e in
          let at = get-Contains refs one.0 (some one.0 (Contains-get those i one.0 one.1)) in
          let less = stands_before refs rising at.0 i one.0 x at.2 here before in
          stands_once those those_rising at.0 i one.0 (h.each at.0 one.0 less at.2) one.1 less
    ]
  ]

  pub is_first_missing : IsLeast (IsMissing refs those) x
  is_first_missing = (
    (Contains-get refs i x here, λ has. (let at = get-Contains those x has in at_none at.0 at.2)),
    λ s before missing.
        let at = get-Contains refs s missing.0 in
        let less = stands_before refs rising at.0 i s x at.2 here before in
        missing.1 (Contains-get those at.0 s (h.each at.0 s less at.2)),
  )

-- ---- exactly the lines of which something holds

pub exactly_once : (P : Ref → Type 0) (refs once : List Ref) → ((r : Ref) → P r → Has refs r)
    → ((r : Ref) → Has refs r → P r) → AreOnce refs once → AreExactly P once
exactly_once P refs once all only h = record {
  all = λ r p. (h.same r).0 (all r p);
  only = λ r has. only r ((h.same r).1 has);
  once = h.rising;
}

pub exactly_same : (P Q : Ref → Type 0) (refs : List Ref) → ((r : Ref) → P r → Q r) → ((r : Ref) → Q r → P r)
    → AreExactly P refs → AreExactly Q refs
exactly_same P Q refs to back h = record {
  all = λ r q. h.all r (back r q);
  only = λ r has. to r (h.only r has);
  once = h.once;
}
