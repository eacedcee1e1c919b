-- The least of the lines that a walk gives.
use Rattle.std.specs.Prelude.{◌≡◌, ℕ, ◌+◌, ◌<◌, ◌≤◌, List, [], ◌∷◌, drop, Option, Some, None, MatchOption, slice_get}
use Rattle.std.specs.Prelude.{length, Contains as Has}
use Rattle.std.proofs.Common.{zero, suc, arith, sym, ◌∙◌, ap, subst, refl, inl, inr}
use Rattle.std.proofs.lemmas.Bool.{cases_lt}
use Rattle.binding_rules.specs.declared.role.Role.{Role}
use Rattle.binding_rules.specs.declared.role.Role.TheVariants.{Primary, Secondary}
use Rattle.causal_order.specs.declared.reference.Ref.{Ref}
use Rattle.causal_order.specs.LineOrder.{ComesBefore, IsLeast}
use Rattle.auditor.specs.Refusals.{ComesFirst}
use Rattle.auditor.proofs.Given.{Contains-get, get-Contains}

-- ---- the order of lines

abbrev here : Role → ℕ → Ref
here side n = record { side = side; number = n }

irrefl_by : (x : Role) (n : ℕ) → ComesBefore (here x n) (here x n) → ⊥
irrefl_by Primary n h = absurd (omega arith)
irrefl_by Secondary n h = absurd (omega arith)

before_irrefl : (r : Ref) → ComesBefore r r → ⊥
before_irrefl r h = irrefl_by r.side r.number h

trans_by : (x y z : Role) (k m n : ℕ) → ComesBefore (here x k) (here y m) → ComesBefore (here y m) (here z n)
    → ComesBefore (here x k) (here z n)
trans_by Primary Primary Primary k m n a b = omega arith
trans_by Secondary Secondary Secondary k m n a b = omega arith
trans_by Primary Primary Secondary k m n a b = omega arith
trans_by Primary Secondary Secondary k m n a b = omega arith
trans_by Primary Secondary Primary k m n a b = absurd b
trans_by Secondary Primary Primary k m n a b = absurd a
trans_by Secondary Primary Secondary k m n a b = absurd a
trans_by Secondary Secondary Primary k m n a b = absurd b

before_trans : (r s t : Ref) → ComesBefore r s → ComesBefore s t → ComesBefore r t
before_trans r s t a b = trans_by r.side s.side t.side r.number s.number t.number a b

-- ---- the least of the given lines

-- the least of the first i of which P holds, or none
abbrev pub IsLeastOf : (Ref → Type 0) → List Ref → ℕ → Option Ref → Type 0
IsLeastOf P given i None = (k : ℕ) (r : Ref) → k < i → slice_get given k ≡ Some r → P r → ⊥
IsLeastOf P given i (Some m) = P m × ((k : ℕ) (r : Ref) → k < i → slice_get given k ≡ Some r → P r → ComesBefore r m
    → ⊥)

module _ (P : Ref → Type 0) (given : List Ref) where
  -- the line at i, where it stands there again
  same_line : (i k : ℕ) (r s : Ref) → k < i + 1 → i ≤ k → slice_get given i ≡ Some r → slice_get given k ≡ Some s
      → r ≡ s
  same_line i k r s lt le a b = let at : i ≡ k = omega arith in
      let same : Some r ≡ Some s = sym a ∙ (ap (slice_get given) at ∙ b) in cc

  none_given : IsLeastOf P given 0 None
  none_given k r lt e u = absurd (omega arith)

  -- a line that is not both sooner and one of which P holds
  least_kept : (i : ℕ) (o : Option Ref) (r : Ref) → slice_get given i ≡ Some r → (ComesFirst r o → P r → ⊥)
      → IsLeastOf P given i o → IsLeastOf P given (i + 1) o
  least_kept i None r e n h = λ k s lt f u. elim (cases_lt k i) [
    | inl less ↦ h k s less f u
    | inr le ↦ n (omega arith) (subst P (sym (same_line i k r s lt le e f)) u)
  ]
  least_kept i (Some m) r e n h = (
    h.0,
    λ k s lt f u before. elim (cases_lt k i) [
      | inl less ↦ h.1 k s less f u before
      | inr le ↦
          let same = sym (same_line i k r s lt le e f) in
          n (subst (λ (x : Ref). ComesBefore x m) same before) (subst P same u)
    ],
  )

  -- no line before i comes before r, nor does r itself
  least_at : (i : ℕ) (r : Ref) → slice_get given i ≡ Some r → P r
      → ((k : ℕ) (s : Ref) → k < i → slice_get given k ≡ Some s → P s → ComesBefore s r → ⊥)
      → IsLeastOf P given (i + 1) (Some r)
  least_at i r e u first = (
    u,
    λ k s lt f v before. elim (cases_lt k i) [
      | inl less ↦ first k s less f v before
      | inr le ↦ before_irrefl r (subst (λ (x : Ref). ComesBefore x r) (sym (same_line i k r s lt le e f)) before)
    ],
  )

  least_more : (i : ℕ) (o : Option Ref) (r : Ref) → slice_get given i ≡ Some r → P r → ComesFirst r o
      → IsLeastOf P given i o → IsLeastOf P given (i + 1) (Some r)
  least_more i None r e u is h = least_at i r e u (λ k t lt f v before. h k t lt f v)
  least_more i (Some m) r e u is h = least_at i r e u (λ k t lt f v before.
      h.1 k t lt f v (before_trans t r m before is))

  -- where each line of which P holds is given
  module _ (all : (r : Ref) → P r → (k : ℕ) × (k < length given) × (slice_get given k ≡ Some r)) where
    none_at_all : (i : ℕ) → length given ≤ i → IsLeastOf P given i None → (r : Ref) → P r → ⊥
    none_at_all i le h r u = let k = all r u in h k.0 r (omega (arith, k.1)) k.2 u

    least_of_all : (i : ℕ) (m : Ref) → length given ≤ i → IsLeastOf P given i (Some m) → IsLeast P m
    least_of_all i m le h = (h.0, λ s before u. (let k = all s u in h.1 k.0 s (omega (arith, k.1)) k.2 u before))

-- ---- a walk over the given lines

-- what it gave, and the least of that of which P holds
pub record IsWalked (P : Ref → Type 0) (given left : List Ref) (least : Option Ref) : Type 0 where
  pub count : ℕ
  pub rest : drop count given ≡ left
  pub found : IsLeastOf P given count least

next_is : (given : List Ref) (i : ℕ) (r : Ref) (more : List Ref) → drop i given ≡ r ∷ more
    → (slice_get given i ≡ Some r) × (drop (i + 1) given ≡ more)
next_is [] zero r more e = absurd (cc)
next_is [] (suc i) r more e = absurd (cc)
next_is (x ∷ given) zero r more e = let same : x ∷ given ≡ r ∷ more = e in (cc, cc)
next_is (x ∷ given) (suc i) r more e =
    let n = next_is given i r more e in
    (n.0, ap (λ (k : ℕ). drop k (x ∷ given)) (let z : suc i + 1 ≡ suc (i + 1) = omega arith in z) ∙ n.1)

all_walked : (given : List Ref) (i : ℕ) → drop i given ≡ [] → length given ≤ i
all_walked [] i e = omega arith
all_walked (x ∷ given) zero e = absurd (cc)
all_walked (x ∷ given) (suc i) e = let le = all_walked given i e in omega (arith, le)

module _ (P : Ref → Type 0) (given : List Ref) where
  pub none_walked : IsWalked P given given None
  none_walked = record { count = 0; rest = refl; found = none_given P given }

  -- the next line is not both sooner and one of which P holds
  pub one_kept : (left more : List Ref) (o : Option Ref) (r : Ref) → left ≡ r ∷ more → (ComesFirst r o → P r → ⊥)
      → IsWalked P given left o → IsWalked P given more o
  one_kept left more o r e n w =
      let at = next_is given w.count r more (w.rest ∙ e) in
      record { count = w.count + 1; rest = at.1; found = least_kept P given w.count o r at.0 n w.found }

  pub one_more : (left more : List Ref) (o : Option Ref) (r : Ref) → left ≡ r ∷ more → P r → ComesFirst r o
      → IsWalked P given left o → IsWalked P given more (Some r)
  one_more left more o r e u is w =
      let at = next_is given w.count r more (w.rest ∙ e) in
      record { count = w.count + 1; rest = at.1; found = least_more P given w.count o r at.0 u is w.found }

  -- what is left is given
  pub next_given : (left more : List Ref) (o : Option Ref) (r : Ref) → left ≡ r ∷ more → IsWalked P given left o
      → Has given r
  next_given left more o r e w = Contains-get given w.count r (next_is given w.count r more (w.rest ∙ e)).0

  -- where each line of which P holds is given, and nothing is left
  module _ (all : (r : Ref) → P r → Has given r) (left : List Ref) (none : left ≡ []) where
    each : (r : Ref) → P r → (k : ℕ) × (k < length given) × (slice_get given k ≡ Some r)
    each r u = get-Contains given r (all r u)

    pub nowhere : IsWalked P given left None → (r : Ref) → P r → ⊥
    nowhere w = none_at_all P given each w.count (all_walked given w.count (w.rest ∙ none)) w.found

    pub least_found : (m : Ref) → IsWalked P given left (Some m) → IsLeast P m
    least_found m w = least_of_all P given each w.count m (all_walked given w.count (w.rest ∙ none)) w.found

    pub is_found : (o : Option Ref) → IsWalked P given left o → MatchOption o ((r : Ref) → P r → ⊥) (IsLeast P)
    is_found None w = nowhere w
    is_found (Some m) w = least_found m w
