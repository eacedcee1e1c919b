-- Lists to which one more was pushed.
use Rattle.std.specs.Prelude.{◌≡◌, ℕ, List, [], ◌∷◌, ◌++◌, length, ◌⊎◌, Some, slice_get}
use Rattle.std.proofs.Common.{zero, suc, ap, refl, inl, inr}

-- what stands at an index stood there before, or was pushed
pub get_pushed : {X : Type 0} (xs : List X) (y : X) (j : ℕ) (r : X) → slice_get (xs ++ y ∷ []) j ≡ Some r
    → (slice_get xs j ≡ Some r) ⊎ ((j ≡ length xs) × (y ≡ r))
get_pushed [] y zero r e = inr (refl, cc)
get_pushed [] y (suc j) r e = absurd (cc)
get_pushed (x ∷ xs) y zero r e = inl e
get_pushed (x ∷ xs) y (suc j) r e = elim (get_pushed xs y j r e) [
  | inl a ↦ inl a
  | inr b ↦ inr (ap suc b.0, b.1)
]
