-- The order in which entries are found, as entries are added and as it is searched.
use Rattle.std.specs.Prelude.{◌≡◌, ℕ, ◌+◌, ◌-◌, ◌^◌, ◌<◌, ◌≤◌, ◌↔◌, List, [], ◌∷◌, ◌++◌, length, All, Some, slice_get}
use Rattle.std.specs.Prelude.{Contains as Has}
use Rattle.std.specs.List.{insert, between}
use Rattle.std.specs.List.Sorted.{IsNonDecreasingBy, IsPermutation}
use Rattle.std.proofs.Common.{zero, suc, sym, ◌∙◌, ap, subst, refl, arith, get_or, inl, inr}
use Rattle.std.proofs.lemmas.Bool.{cases_lt}
use Rattle.std.proofs.lemmas.List.Elements.{All-push, All-cons, All-weaker, Contains-append_right}
use Rattle.std.proofs.lemmas.List.Sorted.{IsNonDecreasingBy-insert, IsPermutation-insert, All-permutation}
use Rattle.std.proofs.lemmas.List.Sorted.{Contains-permutation}
use Rattle.std.proofs.lemmas.Option.{slice_get_within, slice_get_cases}
use Rattle.std.proofs.Common.{length-append}
use Rattle.std.proofs.lemmas.List.Edits.{length-between, get_or-between}
use Rattle.binding_rules.specs.declared.role.Role.{Role}
use Rattle.binding_rules.specs.declared.role.Role.TheVariants.{Primary, Secondary}
use Rattle.causal_order.specs.declared.reference.Ref.{Ref}
use Rattle.causal_order.specs.Naming.{NamesAt}
use Rattle.causal_order.specs.WrittenOrder.{place_on, place_of, place_in, place_at, IsOrder}

-- ---- places tell lines apart

abbrev here : Role → ℕ → Ref
here side n = record { side = side; number = n }

one_by : (x y : Role) (m n : ℕ) → m < 2 ^ 32 → n < 2 ^ 32 → place_on x m ≡ place_on y n → here x m ≡ here y n
one_by Primary Primary m n a b e = ap (here Primary) (let z : m ≡ n = omega (arith, e) in z)
one_by Secondary Secondary m n a b e = ap (here Secondary) (let z : m ≡ n = omega (arith, e) in z)
one_by Primary Secondary m n a b e = absurd (omega (arith, e))
one_by Secondary Primary m n a b e = absurd (omega (arith, e))

one_line : (r s : Ref) → r.number < 2 ^ 32 → s.number < 2 ^ 32 → place_of r ≡ place_of s → r ≡ s
one_line r s a b e = one_by r.side s.side r.number s.number a b e

-- ---- an entry behind the others

get_front : {X : Type 0} (xs ys : List X) (i : ℕ) → i < length xs → slice_get (xs ++ ys) i ≡ slice_get xs i
get_front [] ys i lt = absurd (omega arith)
get_front (x ∷ xs) ys zero lt = refl
get_front (x ∷ xs) ys (suc i) lt = get_front xs ys i (omega arith)

get_last : {X : Type 0} (xs : List X) (x : X) → slice_get (xs ++ x ∷ []) (length xs) ≡ Some x
get_last [] x = refl
get_last (y ∷ xs) x = get_last xs x

module _ {T : Type 0} (named : T → Ref) (entries : List T) (order : List ℕ) (h : IsOrder named entries order) where
  kept_place : (x : T) (i d : ℕ) → i < length order → place_at named (entries ++ x ∷ []) (get_or order i d)
      ≡ place_at named entries (get_or order i d)
  kept_place x i d lt = ap (place_in named) (get_front entries (x ∷ []) (get_or order i d) (h.within i d lt))

  kept_sorted : (x : T) → IsNonDecreasingBy (place_at named (entries ++ x ∷ [])) order
  kept_sorted x i j d le lt =
      let up = h.sorted i j d le lt in
      let a = kept_place x i d (omega (arith, le, lt)) in
      let b = kept_place x j d lt in
      omega (arith, up, a, b)

  new_place : (x : T) → place_at named (entries ++ x ∷ []) (length entries) ≡ place_of (named x)
  new_place x = ap (place_in named) (get_last entries x)

  long : (x : T) → length (entries ++ x ∷ []) ≡ length entries + 1
  long x = length-append entries (x ∷ [])

  module _ (x : T) (short : (named x).number < 2 ^ 32) (behind : ℕ) (le : behind ≤ length order)
      (before : (i d : ℕ) → i < behind → place_at named entries (get_or order i d) < place_of (named x) + 1)
      (rest : (i d : ℕ) → behind ≤ i → i < length order → place_of (named x) + 1
      ≤ place_at named entries (get_or order i d)) where
    same : IsPermutation (length entries ∷ order) (insert order behind (length entries))
    same = IsPermutation-insert order behind (length entries)

    below : All (λ k. k < length (entries ++ x ∷ [])) (length entries ∷ order)
    below = All-cons (λ k. k < length (entries ++ x ∷ [])) (length entries) order (omega (arith, long x))
        (All-weaker (λ k. k < length entries) (λ k. k < length (entries ++ x ∷ []))
        (λ k lt. omega (arith, lt, long x)) order h.within)

    there : (k : ℕ) → k < length (entries ++ x ∷ []) → Has (length entries ∷ order) k
    there k lt = elim (cases_lt k (length entries)) [
      | inl less ↦ Contains-append_right (length entries ∷ []) order k (h.whole k less)
      | inr ge ↦ (0, omega arith, (let z : length entries ≡ k = omega (arith, lt, ge, long x) in z))
    ]

    risen : IsNonDecreasingBy (place_at named (entries ++ x ∷ [])) (insert order behind (length entries))
    risen = IsNonDecreasingBy-insert (place_at named (entries ++ x ∷ [])) order behind (length entries)
        (kept_sorted x) le
        (λ k d lt. omega (arith, before k d lt, kept_place x k d (omega (arith, le, lt)), new_place x))
        (λ k d ge lt. omega (arith, rest k d ge lt, kept_place x k d lt, new_place x))

    pub is_order_of_more : IsOrder named (entries ++ x ∷ []) (insert order behind (length entries))
    is_order_of_more = record {
      short = All-push (λ (y : T). (named y).number < 2 ^ 32) entries x h.short short;
      within = All-permutation (λ k. k < length (entries ++ x ∷ [])) _ _ same below;
      whole = λ k lt. Contains-permutation _ _ k same (there k lt);
      sorted = risen;
    }

-- ---- the entries that name a line

module _ {T : Type 0} (named : T → Ref) (entries : List T) (order : List ℕ) (h : IsOrder named entries order)
    (line : Ref) (first behind : ℕ)
    (most : first ≤ length order) (within : behind ≤ length order)
    (before_first : (i d : ℕ) → i < first → place_at named entries (get_or order i d) < place_of line)
    (from_first : (i d : ℕ) → first ≤ i → i < length order → place_of line ≤ place_at named entries (get_or order i d))
    (before_behind : (i d : ℕ) → i < behind → place_at named entries (get_or order i d) < place_of line + 1)
    (from_behind : (i d : ℕ) → behind ≤ i → i < length order → place_of line + 1
    ≤ place_at named entries (get_or order i d)) where
  pub in_order : first ≤ behind
  in_order = elim (cases_lt behind first) [
    | inl lt ↦ absurd (omega (
      arith,
      before_first behind 0 lt,
      from_behind behind 0 (omega arith) (omega (arith, lt, most)),
    ))
    | inr le ↦ le
  ]

  -- an index between the two is that of an entry that names the line
  its_line : (short : line.number < 2 ^ 32) (k : ℕ) (x : T) → slice_get entries k ≡ Some x → get_or entries k x ≡ x
      → place_at named entries k ≡ place_of line → named x ≡ line
  its_line short k x at is same =
      let small : (named x).number < 2 ^ 32 =
      subst (λ (y : T). (named y).number < 2 ^ 32) is (h.short k x (slice_get_within entries k x at)) in
      one_line (named x) line small short (sym (ap (place_in named) at) ∙ same)

  found : (short : line.number < 2 ^ 32) (k : ℕ) → Has (between first behind order) k → NamesAt named entries line k
  found short k has =
      let inside : first + has.0 < behind = omega (arith, has.1, length-between order first behind within) in
      let is : get_or order (first + has.0) k ≡ k = sym (get_or-between order first behind has.0 k inside) ∙ has.2 in
      let low = subst (λ (n : ℕ). place_of line ≤ place_at named entries n) is
      (from_first (first + has.0) k (omega arith) (omega (arith, inside, within))) in
      let high = subst (λ (n : ℕ). place_at named entries n < place_of line + 1) is
      (before_behind (first + has.0) k inside) in
      let same : place_at named entries k ≡ place_of line = omega (arith, low, high) in
      let lt : k < length entries = subst (λ (n : ℕ). n < length entries) is
      (h.within (first + has.0) k (omega (arith, inside, within))) in
      elim (slice_get_cases entries k).1 [
        | inl c ↦ (c.0, c.2, its_line short k c.0 c.2 c.3 same)
        | inr c ↦ absurd (omega (arith, c.0, lt))
      ]

  listed : (k : ℕ) → NamesAt named entries line k → Has (between first behind order) k
  listed k n =
      let at = h.whole k (slice_get_within entries k n.0 n.1) in
      let same : place_at named entries (get_or order at.0 k) ≡ place_of line =
      ap (place_at named entries) at.2 ∙ (ap (place_in named) n.1 ∙ ap place_of n.2) in
      let low : first ≤ at.0 = elim (cases_lt at.0 first) [
        | inl lt ↦
            absurd (omega (arith, before_first at.0 k lt, same))
        | inr le ↦ le
      ] in
      let high : at.0 < behind = elim (cases_lt at.0 behind) [
        | inl lt ↦ lt
        | inr le ↦ absurd (omega (arith, from_behind at.0 k le at.1, same))
      ] in (
        at.0 - first,
        omega (arith, low, high, length-between order first behind within),
        get_or-between order first behind (at.0 - first) k (omega (arith, low, high))
            ∙ (ap (λ (i : ℕ). get_or order i k) (let z : first + (at.0 - first) ≡ at.0 = omega (arith, low) in z)
            ∙ at.2),
      )

  pub named_between : line.number < 2 ^ 32 → (k : ℕ) → Has (between first behind order) k ↔ NamesAt named entries line k
  named_between short k = (found short k, listed k)
