-- Lines in order, each once.
use Rattle.std.specs.Prelude.{◌≡◌, ℕ, ◌+◌, ◌-◌, ◌<◌, ◌≤◌, ◌^◌, List, [], ◌∷◌, ◌++◌, length}
use Rattle.std.specs.Prelude.{Option, Some, None, slice_get, Contains as Has}
use Rattle.std.specs.List.Sorted.{IsNonDecreasingBy, IsPermutation}
use Rattle.std.proofs.Common.{sym, ◌∙◌, ap, subst, refl, arith, inl, inr, get_or}
use Rattle.std.proofs.lemmas.Bool.{cases_lt}
use Rattle.std.proofs.lemmas.Option.{slice_get_within, get_or_from_slice_get, slice_get-get_or}
use Rattle.std.proofs.lemmas.List.Elements.{Contains-append_left, Contains-push, Contains-push_cases}
use Rattle.std.proofs.lemmas.List.Sorted.{Contains-permutation, IsPermutation-sym}
use Rattle.binding_rules.specs.declared.role.Role.{Role}
use Rattle.binding_rules.specs.declared.role.Role.TheVariants.{Primary, Secondary}
use Rattle.causal_order.specs.declared.reference.Ref.{Ref}
use Rattle.causal_order.specs.WrittenOrder.{place_of}
use Rattle.causal_order.specs.LineOrder.{ComesBefore}
use Rattle.auditor.proofs.Given.{Contains-get, get-Contains}
use Rattle.evidence_report.specs.Lines.{AreOnce, ComesAfterLast}
use Rattle.evidence_report.proofs.Pushed.{get_pushed}

-- ---- places

abbrev here : Role → ℕ → Ref
here side n = record { side = side; number = n }

before_by : (x y : Role) (m n : ℕ) → n < 2 ^ 32 → place_of (here x m) < place_of (here y n)
    → ComesBefore (here x m) (here y n)
before_by Primary Primary m n small lt = omega arith
before_by Primary Secondary m n small lt = omega arith
before_by Secondary Primary m n small lt = absurd (omega arith)
before_by Secondary Secondary m n small lt = omega arith

before_at : (r s : Ref) → s.number < 2 ^ 32 → place_of r < place_of s → ComesBefore r s
before_at r s small lt = before_by r.side s.side r.number s.number small lt

same_by : (x y : Role) (m n : ℕ) → m < 2 ^ 32 → n < 2 ^ 32 → place_of (here x m) ≡ place_of (here y n)
    → here x m ≡ here y n
same_by Primary Primary m n a b e = ap (here Primary) (let is : m ≡ n = omega arith in is)
same_by Primary Secondary m n a b e = absurd (omega arith)
same_by Secondary Primary m n a b e = absurd (omega arith)
same_by Secondary Secondary m n a b e = ap (here Secondary) (let is : m ≡ n = omega arith in is)

same_at : (r s : Ref) → r.number < 2 ^ 32 → s.number < 2 ^ 32 → place_of r ≡ place_of s → r ≡ s
same_at r s a b e = same_by r.side s.side r.number s.number a b e

-- ---- the lines so far, each once

pub record AreOnceSoFar (refs once : List Ref) (i : ℕ) : Type 0 where
  pub small : (r : Ref) → Has once r → r.number < 2 ^ 32
  pub rising : (j k : ℕ) (r s : Ref) → j < k → slice_get once j ≡ Some r → slice_get once k ≡ Some s
      → place_of r < place_of s
  pub all : (k : ℕ) (r : Ref) → k < i → slice_get refs k ≡ Some r → Has once r
  pub only : (r : Ref) → Has once r → (k : ℕ) × (k < i) × (slice_get refs k ≡ Some r)

none_in : (r : Ref) → Has [] r → ⊥
none_in r h = let lt = h.1 in absurd (omega arith)

pub none_yet : (refs : List Ref) → AreOnceSoFar refs [] 0
none_yet refs = record {
  small = λ r h. absurd (none_in r h);
  rising = λ j k r s lt a b. absurd (cc);
  all = λ k r lt at. absurd (omega arith);
  only = λ r h. absurd (none_in r h);
}

module _ (refs once : List Ref) (i : ℕ) (at : Ref) (here : slice_get refs i ≡ Some at)
    (h : AreOnceSoFar refs once i) where
  -- the line at i stands among those of the next list, which holds those before
  all_more : (next : List Ref) → ((r : Ref) → Has once r → Has next r) → Has next at → (k : ℕ) (r : Ref) → k < i + 1
      → slice_get refs k ≡ Some r → Has next r
  all_more next more new k r lt e = elim (cases_lt k i) [
    | inl less ↦ more r (h.all k r less e)
    | inr le ↦ (let same : i ≡ k = omega arith in let f : Some at ≡ Some r = sym here ∙ (ap (slice_get refs) same ∙ e) in
        let is : at ≡ r = cc in subst (Has next) is new)
  ]

  only_more : (r : Ref) → Has once r → (k : ℕ) × (k < i + 1) × (slice_get refs k ≡ Some r)
  only_more r m = let f = h.only r m in (f.0, (let lt = f.1 in omega arith), f.2)

  -- one of those so far comes before a line that comes behind the last of them
  before_last : (j : ℕ) (r : Ref) → slice_get once j ≡ Some r → ComesAfterLast once at → place_of r < place_of at
  before_last j r e behind =
      let within = slice_get_within once j r e in
      let at_end = slice_get-get_or once (length once - 1) r (omega arith) in
      let lt = behind (get_or once (length once - 1) r) at_end in
      elim (cases_lt j (length once - 1)) [
        | inl less ↦ (let more = h.rising j (length once - 1) r (get_or once (length once - 1) r) less e at_end in
            omega arith)
        | inr le ↦ (let same : j ≡ length once - 1 = omega arith in
            let f : Some r ≡ Some (get_or once (length once - 1) r) = sym e ∙ (ap (slice_get once) same ∙ at_end) in
            let is : r ≡ get_or once (length once - 1) r = cc in
            let places = ap place_of is in omega arith)
      ]

  pushed : at.number < 2 ^ 32 → ComesAfterLast once at → AreOnceSoFar refs (once ++ at ∷ []) (i + 1)
  pushed small behind = record {
    small = λ r m. elim (Contains-push_cases once at r m) [
      | inl old ↦ h.small r old
      | inr is ↦ subst (λ (x : Ref). x.number < 2 ^ 32) is small
    ];
    rising = λ j k r s lt a b. elim (get_pushed once at k s b) [
      | inl old ↦ (let within = slice_get_within once k s old in elim (get_pushed once at j r a) [
        | inl first ↦ h.rising j k r s lt first old
        | inr new ↦ (let end = new.0 in absurd (omega arith))
      ])
      | inr new ↦ (let end = new.0 in elim (get_pushed once at j r a) [
        | inl first ↦ subst (λ (x : Ref). place_of r < place_of x) new.1 (before_last j r first behind)
        | inr other ↦ (let there = other.0 in absurd (omega arith))
      ])
    ];
    all = all_more (once ++ at ∷ []) (λ r m. Contains-append_left once (at ∷ []) r m) (Contains-push once at);
    only = λ r m. elim (Contains-push_cases once at r m) [
      | inl old ↦ only_more r old
      | inr is ↦ (i, omega arith, here ∙ ap (λ (x : Ref). Some x) is)
    ];
  }

  -- a line that doesn't come behind the last of those so far is the last
  is_last : IsNonDecreasingBy place_of refs → at.number < 2 ^ 32 → (ComesAfterLast once at → ⊥) → (o : Option Ref)
      → slice_get once (length once - 1) ≡ o → Has once at
  is_last sorted small not_behind None e =
      absurd (not_behind (λ last f. absurd (let x : None ≡ Some last = sym e ∙ f in cc)))
  is_last sorted small not_behind (Some last) e = elim (cases_lt (place_of last) (place_of at)) [
    | inl less ↦ absurd (not_behind (λ other f.
        let x : Some last ≡ Some other = sym e ∙ f in
        let is : last ≡ other = cc in
        subst (λ (y : Ref). place_of y < place_of at) is less))
    | inr le ↦
        let m = Contains-get once (length once - 1) last e in
        let f = h.only last m in
        let within = slice_get_within refs i at here in
        let lt = f.1 in
        let order = sorted f.0 i at (omega arith) within in
        let a = ap place_of (get_or_from_slice_get refs f.0 last at f.2) in
        let b = ap place_of (get_or_from_slice_get refs i at at here) in
        let places : place_of last ≡ place_of at = omega arith in
        subst (Has once) (same_at last at (h.small last m) small places) m
  ]

  kept : IsNonDecreasingBy place_of refs → at.number < 2 ^ 32 → (ComesAfterLast once at → ⊥) → AreOnceSoFar refs once (i + 1)
  kept sorted small not_behind = record {
    small = h.small;
    rising = h.rising;
    all = all_more once (λ r m. m)
        (is_last sorted small not_behind (slice_get once (length once - 1)) refl);
    only = only_more;
  }

-- the loop's steps, by the test
pub one_pushed : (refs once : List Ref) (i : ℕ) (d : Ref) → i < length refs → (get_or refs i d).number < 2 ^ 32
    → ComesAfterLast once (get_or refs i d) → AreOnceSoFar refs once i
    → AreOnceSoFar refs (once ++ get_or refs i d ∷ []) (i + 1)
one_pushed refs once i d lt small behind h =
    pushed refs once i (get_or refs i d) (slice_get-get_or refs i d lt) h small behind

pub one_kept : (refs once : List Ref) (i : ℕ) (d : Ref) → IsNonDecreasingBy place_of refs → i < length refs
    → (get_or refs i d).number < 2 ^ 32 → (ComesAfterLast once (get_or refs i d) → ⊥) → AreOnceSoFar refs once i
    → AreOnceSoFar refs once (i + 1)
one_kept refs once i d sorted lt small not_behind h =
    kept refs once i (get_or refs i d) (slice_get-get_or refs i d lt) h sorted small not_behind

pub all_once : (refs once : List Ref) (i : ℕ) → length refs ≤ i → AreOnceSoFar refs once i → AreOnce refs once
all_once refs once i le h = record {
  same = λ r. (
    λ m. (let g = get-Contains refs r m in let lt = g.1 in h.all g.0 r (omega arith) g.2),
    λ m. (let f = h.only r m in Contains-get refs f.0 r f.2),
  );
  rising = λ j k r s lt a b. before_at r s (h.small s (Contains-get once k s b)) (h.rising j k r s lt a b);
}

pub once_of_sorted : (refs sorted once : List Ref) → IsPermutation refs sorted → AreOnce sorted once → AreOnce refs once
once_of_sorted refs sorted once p h = record {
  same = λ r. (
    λ m. (h.same r).0 (Contains-permutation refs sorted r p m),
    λ m. Contains-permutation sorted refs r (IsPermutation-sym refs sorted p) ((h.same r).1 m),
  );
  rising = h.rising;
}
