-- The digits of one octet more.
use Rattle.std.proofs.Common.{◌≡◌, ℕ, ◌/◌, ◌%◌, List, [], ◌∷◌, ◌++◌, refl, ap}
use Rattle.text_fields.specs.Octets.{hex_digit, hex}

pub hex_push : (xs : List ℕ) (x : ℕ) → hex (xs ++ x ∷ []) ≡ hex xs ++ (hex_digit (x / 16) ∷ hex_digit (x % 16) ∷ [])
hex_push [] x = refl
hex_push (y ∷ xs) x = ap (λ (t : List ℕ). hex_digit (y / 16) ∷ hex_digit (y % 16) ∷ t) (hex_push xs x)
