-- The length fields of frames and notices.
use Rattle.std.proofs.Common.{◌≡◌, ℕ, zero, suc, ◌+◌, ◌*◌, ◌/◌, ◌%◌, ◌≤◌, ◌<◌, [], ◌∷◌, get_or, arith, refl}
use Rattle.std.specs.Int.{w32, to_be_bytes, from_be_bytes}
use Rattle.std.proofs.lemmas.Nat.{be_bytes_4}

-- two octets of a number
pub two_octets : (n : ℕ) → 256 * (n / 256) + n % 256 ≡ n
two_octets n = omega arith

each : (a b : ℕ) → a < 256 → b < 256 → (i : ℕ) → get_or (0 ∷ 0 ∷ a ∷ b ∷ []) i 0 < 256
each a b ha hb zero = omega arith
each a b ha hb (suc zero) = omega arith
each a b ha hb (suc (suc zero)) = ha
each a b ha hb (suc (suc (suc zero))) = hb
each a b ha hb (suc (suc (suc (suc i)))) = omega arith

value : (n : ℕ) → n ≡ from_be_bytes w32 (0 ∷ 0 ∷ n / 256 ∷ n % 256 ∷ [])
value n = omega arith

-- the four octets of a small number
pub small_octets : (n : ℕ) → n ≤ 512 → to_be_bytes w32 n ≡ 0 ∷ 0 ∷ n / 256 ∷ n % 256 ∷ []
small_octets n small =
    be_bytes_4 (0 ∷ 0 ∷ n / 256 ∷ n % 256 ∷ []) n refl (each (n / 256) (n % 256) (omega arith) (omega arith)) (value n)
