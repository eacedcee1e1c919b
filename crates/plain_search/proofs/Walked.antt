-- Walks over lines: what is wanted is still left, or done.
use Rattle.std.specs.Prelude.{◌≡◌, ◌⊎◌, List, [], ◌∷◌, Contains as Has}
use Rattle.std.proofs.Common.{suc, arith, sym, subst, refl, inl, inr}
use Rattle.causal_order.specs.declared.reference.Ref.{Ref}
use Rattle.attribution.proofs.Deciding.{has_cases}

-- each line that is wanted is left, or done
pub record Passed (Wanted Done : Ref → Type 0) (left : List Ref) : Type 0 where
  pub each : (r : Ref) → Wanted r → Has left r ⊎ Done r

-- each line that is left is wanted
pub record AreOnly (Wanted : Ref → Type 0) (left : List Ref) : Type 0 where
  pub each : (r : Ref) → Has left r → Wanted r

none_left : (left : List Ref) (r : Ref) → left ≡ [] → Has left r → ⊥
none_left left r e h = let has : Has [] r = subst (λ xs. Has xs r) e h in let lt = has.1 in absurd (omega arith)

left_on : (left more : List Ref) (r j : Ref) → left ≡ r ∷ more → Has left j → (r ≡ j) ⊎ Has more j
left_on left more r j e h = let has : Has (r ∷ more) j = subst (λ xs. Has xs j) e h in
    has_cases r j more has.0 has.1 has.2

next_has : (left more : List Ref) (r : Ref) → left ≡ r ∷ more → Has left r
next_has left more r e = subst (λ xs. Has xs r) (sym e) (0, omega arith, refl)

more_has : (left more : List Ref) (r j : Ref) → left ≡ r ∷ more → Has more j → Has left j
more_has left more r j e h = subst (λ xs. Has xs j) (sym e) (suc h.0, (let lt = h.1 in omega arith), h.2)

-- ---- what is wanted

module _ (Wanted : Ref → Type 0) where
  pub passed_none : (Done : Ref → Type 0) (left : List Ref) → ((r : Ref) → Wanted r → Has left r)
      → Passed Wanted Done left
  passed_none Done left all = record { each = λ r w. inl (all r w) }

  pub passed_on : (Done More : Ref → Type 0) (left more : List Ref) (r : Ref) → left ≡ r ∷ more
      → ((j : Ref) → Done j → More j) → (Wanted r → More r)
      → Passed Wanted Done left → Passed Wanted More more
  passed_on Done More left more r e keeps here h = record {
    each = λ j w. elim (h.each j w) [
      | inl has ↦ elim (left_on left more r j e has) [
        | inl same ↦
            inr (subst More same (here (subst Wanted (sym same) w)))
        | inr later ↦ inl later
      ]
      | inr done ↦ inr (keeps j done)
    ];
  }

  pub passed_all : (Done : Ref → Type 0) (left : List Ref) → left ≡ [] → Passed Wanted Done left → (r : Ref) → Wanted r
      → Done r
  passed_all Done left e h r w = elim (h.each r w) [ inl has ↦ absurd (none_left left r e has) | inr done ↦ done ]

  pub only_all : (left : List Ref) → ((r : Ref) → Has left r → Wanted r) → AreOnly Wanted left
  only_all left only = record { each = only }

  pub only_next : (left more : List Ref) (r : Ref) → left ≡ r ∷ more → AreOnly Wanted left → Wanted r
  only_next left more r e h = h.each r (next_has left more r e)

  pub only_on : (left more : List Ref) (r : Ref) → left ≡ r ∷ more → AreOnly Wanted left → AreOnly Wanted more
  only_on left more r e h = record { each = λ j has. h.each j (more_has left more r j e has) }
