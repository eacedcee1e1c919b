-- Of two lines one comes before the other, or they are the same: there is one least.
use Rattle.std.specs.Prelude.{◌≡◌, ℕ, ◌<◌, ◌⊎◌}
use Rattle.std.proofs.Common.{arith, ap, inl, inr}
use Rattle.std.proofs.lemmas.Bool.{cases_lt}
use Rattle.binding_rules.specs.declared.role.Role.{Role}
use Rattle.binding_rules.specs.declared.role.Role.TheVariants.{Primary, Secondary}
use Rattle.causal_order.specs.declared.reference.Ref.{Ref}
use Rattle.causal_order.specs.LineOrder.{ComesBefore, IsLeast}

pub order_cases : (m n : ℕ) → (m < n) ⊎ ((m ≡ n) ⊎ (n < m))
order_cases m n = elim (cases_lt m n) [
  | inl a ↦ inl a
  | inr a ↦
      elim (cases_lt n m) [ inl b ↦ inr (inr b) | inr b ↦ inr (inl (omega arith)) ]
]

abbrev pub ref_of : Role → ℕ → Ref
ref_of side n = record { side = side; number = n }

ref_cases_by : (x y : Role) (m n : ℕ) → ComesBefore (ref_of x m) (ref_of y n)
    ⊎ ((ref_of x m ≡ ref_of y n) ⊎ ComesBefore (ref_of y n) (ref_of x m))
ref_cases_by Primary Primary m n = elim (order_cases m n) [
  | inl h ↦ inl h
  | inr h ↦ elim h [ inl e ↦ inr (inl (ap (ref_of Primary) e)) | inr g ↦ inr (inr g) ]
]
ref_cases_by Secondary Secondary m n = elim (order_cases m n) [
  | inl h ↦ inl h
  | inr h ↦ elim h [ inl e ↦ inr (inl (ap (ref_of Secondary) e)) | inr g ↦ inr (inr g) ]
]
ref_cases_by Primary Secondary m n = inl (omega arith)
ref_cases_by Secondary Primary m n = inr (inr (omega arith))

pub ref_cases : (r s : Ref) → ComesBefore r s ⊎ ((r ≡ s) ⊎ ComesBefore s r)
ref_cases r s = ref_cases_by r.side s.side r.number s.number

pub one_least : (P : Ref → Type 0) (r s : Ref) → IsLeast P r → IsLeast P s → r ≡ s
one_least P r s a b = elim (ref_cases r s) [
  | inl h ↦ absurd (b.1 r h a.0)
  | inr h ↦ elim h [ inl e ↦ e | inr g ↦ absurd (a.1 s g b.0) ]
]
