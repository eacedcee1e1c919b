-- Pieces, from the front.
use Rattle.std.specs.Prelude.{◌≡◌, ◌↔◌, IsTrue, true, false, ℕ, ◌+◌, ◌<◌, ◌≤◌, List, [], ◌∷◌, length, Some, slice_get}
use Rattle.std.specs.Prelude.{All}
use Rattle.std.proofs.Common.{zero, suc, arith, sym, ◌∙◌, ap, subst, refl, inl, inr, get_or}
use Rattle.std.proofs.lemmas.Bool.{cases_lt}
use Rattle.std.proofs.lemmas.Option.{slice_get_within, get_or_from_slice_get, slice_get-get_or}
use Rattle.causal_order.specs.declared.certificate.Certificate.{Certificate}
use Rattle.causal_order.specs.declared.certificate.Piece.{Piece}
use Rattle.attribution.specs.FirstRefusal.{HoldsBefore, IsFirstNot, begin_at, IsInPlace, IsTiled, IsGap}

-- ---- the first item of a list of which P does not hold

-- P holds of each item before the i-th
pub record HaveHeld {X : Type 0} (P : X → Type 0) (xs : List X) (i : ℕ) : Type 0 where
  pub each : HoldsBefore P xs i

module _ {X : Type 0} (P : X → Type 0) (xs : List X) where
  pub none_yet : HaveHeld P xs 0
  none_yet = record { each = λ j y lt e. absurd (omega arith) }

  pub one_more : (i : ℕ) (x : X) → slice_get xs i ≡ Some x → P x → HaveHeld P xs i → HaveHeld P xs (i + 1)
  one_more i x e p h = record {
    each = λ j y lt f. elim (cases_lt j i) [
      | inl less ↦ h.each j y less f
      | inr le ↦ (let at : i ≡ j = omega arith in let same : Some x ≡ Some y = sym e ∙ (ap (slice_get xs) at ∙ f) in
          let is : x ≡ y = cc in subst P is p)
    ];
  }

  pub all_held : (i : ℕ) → length xs ≤ i → HaveHeld P xs i → All P xs
  all_held i le h k d lt = h.each k (get_or xs k d) (omega arith) (slice_get-get_or xs k d lt)

  pub first_not : (i : ℕ) (x : X) → slice_get xs i ≡ Some x → (P x → ⊥) → HaveHeld P xs i → IsFirstNot P xs i x
  first_not i x e n h = (e, n, h.each)

  pub fails_at : (i : ℕ) (x : X) → slice_get xs i ≡ Some x → (P x → ⊥) → IsTrue false ↔ All P xs
  fails_at i x e n = (
    λ t. absurd (cc),
    λ h. absurd (n (subst P (get_or_from_slice_get xs i x x e) (h i x (slice_get_within xs i x e)))),
  )

  pub holds_of_all : (i : ℕ) → length xs ≤ i → HaveHeld P xs i → IsTrue true ↔ All P xs
  holds_of_all i le h = (λ t. all_held i le h, λ a. refl)

-- ---- pieces that lie end to end

begin_behind : (from : ℕ) (ps : List Piece) (k : ℕ) (p : Piece) → slice_get ps k ≡ Some p
    → begin_at from ps (suc k) ≡ p.to
begin_behind from [] k p e = absurd (cc)
begin_behind from (q ∷ ps) zero p e = let is : q ≡ p = cc in ap (λ (x : Piece). x.to) is
begin_behind from (q ∷ ps) (suc k) p e = begin_behind q.to ps k p e

-- the pieces before the i-th are in place, and the i-th must begin here
pub record AreInPlace (c : Certificate) (i begin : ℕ) : Type 0 where
  pub here : begin ≡ begin_at c.from c.pieces i
  pub each : (j : ℕ) → j < i → IsInPlace c j

pub first_in_place : (c : Certificate) → AreInPlace c 0 c.from
first_in_place c = record { here = refl; each = λ j lt. absurd (omega arith) }

gap_from : (c : Certificate) (i begin : ℕ) → AreInPlace c i begin → i ≤ length c.pieces → (IsInPlace c i → ⊥)
    → IsGap c (i + 1)
gap_from c i begin h le n = (i, refl, le, n, h.each)

same_piece : (ps : List Piece) (i : ℕ) (p q : Piece) → slice_get ps i ≡ Some p → slice_get ps i ≡ Some q → q ≡ p
same_piece ps i p q a b = let same : Some q ≡ Some p = sym b ∙ a in cc

pub gap_begins : (c : Certificate) (i begin : ℕ) (p : Piece) → slice_get c.pieces i ≡ Some p → (p.from ≡ begin → ⊥)
    → AreInPlace c i begin → IsGap c (i + 1)
gap_begins c i begin p e n h =
    let lt = slice_get_within c.pieces i p e in
    gap_from c i begin h (omega arith) (λ place. elim place [
      | inl x ↦ n (ap (λ (y : Piece). y.from) (sym (same_piece c.pieces i p x.0 e x.1)) ∙ (x.2 ∙ sym h.here))
      | inr x ↦ (let at = x.0 in absurd (omega arith))
    ])

pub gap_empty : (c : Certificate) (i begin : ℕ) (p : Piece) → slice_get c.pieces i ≡ Some p → p.to ≤ p.from
    → AreInPlace c i begin → IsGap c (i + 1)
gap_empty c i begin p e le h =
    let lt = slice_get_within c.pieces i p e in
    gap_from c i begin h (omega arith) (λ place. elim place [
      | inl x ↦ (let is = same_piece c.pieces i p x.0 e x.1 in let a = ap (λ (y : Piece). y.from) is in
          let b = ap (λ (y : Piece). y.to) is in let some = x.3 in absurd (omega arith))
      | inr x ↦ (let at = x.0 in absurd (omega arith))
    ])

pub next_in_place : (c : Certificate) (i begin : ℕ) (p : Piece) → slice_get c.pieces i ≡ Some p → p.from ≡ begin
    → p.from < p.to → AreInPlace c i begin → AreInPlace c (i + 1) p.to
next_in_place c i begin p e from some h = record {
  here = sym (begin_behind c.from c.pieces i p e) ∙ ap (begin_at c.from c.pieces) (let z : suc i ≡ i + 1 =
      omega arith in z);
  each = λ j lt. elim (cases_lt j i) [
    | inl less ↦ h.each j less
    | inr le ↦ (let at : i ≡ j = omega arith in subst (IsInPlace c) at (inl (p, e, from ∙ h.here, some)))
  ];
}

pub all_in_place : (c : Certificate) (i begin : ℕ) → i ≡ length c.pieces → 0 < length c.pieces → begin ≡ c.to
    → AreInPlace c i begin → IsTiled c
all_in_place c i begin at some end h k le = elim (cases_lt k i) [
  | inl less ↦ h.each k less
  | inr ge ↦ (let is : i ≡ k = omega arith in subst (IsInPlace c) is (inr (at, omega arith, sym h.here ∙ end)))
]

pub gap_past_last : (c : Certificate) (i n begin : ℕ) → i ≡ length c.pieces → n ≡ i + 1 → (begin ≡ c.to → ⊥)
    → AreInPlace c i begin → IsGap c n
gap_past_last c i n begin at next ne h =
    subst (IsGap c) (sym next) (gap_from c i begin h (omega arith) (λ place. elim place [
      | inl x ↦ (let lt = slice_get_within c.pieces i x.0 x.1 in absurd (omega arith))
      | inr x ↦ ne (h.here ∙ x.2)
    ]))

pub gap_of_none : (c : Certificate) (i n begin : ℕ) → i ≡ length c.pieces → n ≡ i + 1 → length c.pieces ≡ 0
    → AreInPlace c i begin → IsGap c n
gap_of_none c i n begin at next none h =
    subst (IsGap c) (sym next) (gap_from c i begin h (omega arith) (λ place. elim place [
      | inl x ↦ (let lt = slice_get_within c.pieces i x.0 x.1 in absurd (omega arith))
      | inr x ↦ (let some = x.1 in absurd (omega arith))
    ]))
