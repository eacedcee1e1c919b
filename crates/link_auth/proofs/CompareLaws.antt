-- Octets compared without an early end.
use Rattle.std.proofs.Common.{◌≡◌, ℕ, ◌+◌, ◌<◌, ◌≤◌, List, length, get_or, refl, arith, inl, inr, ◌⊎◌}
use Rattle.std.specs.Prelude.{bit_xor, bit_or}
use Rattle.std.specs.Int.Bits.{xor_add_and, xor_self}
use Rattle.std.proofs.lemmas.Nat.{le_or_l, le_or_r, and_le_l, and_le_r}
use Rattle.std.proofs.lemmas.List.{ext_get_or}

-- so many octets were looked at
pub record Compared (one other : List ℕ) (difference i : ℕ) : Type 0 where
  pub same : one ≡ other → difference ≡ 0
  pub each : difference ≡ 0 → (k : ℕ) → k < i → get_or one k 0 ≡ get_or other k 0

xor_zero : (a b : ℕ) → bit_xor a b ≡ 0 → a ≡ b
xor_zero a b e = omega (arith, xor_add_and a b, and_le_l a b, and_le_r a b)

none_differs : (one other : List ℕ) (difference i : ℕ) → Compared one other difference i
    → bit_or difference (bit_xor (get_or one i 0) (get_or other i 0)) ≡ 0
    → (k : ℕ) → k < i + 1 → (k < i) ⊎ (k ≡ i) → get_or one k 0 ≡ get_or other k 0
none_differs one other difference i before e k below (inl earlier) =
    before.each (omega (arith, le_or_l difference (bit_xor (get_or one i 0) (get_or other i 0)))) k earlier
none_differs one other difference i before e k below (inr last) =
    rw last (xor_zero (get_or one i 0) (get_or other i 0)
    (omega (arith, le_or_r difference (bit_xor (get_or one i 0) (get_or other i 0)))))

pub one_more : (one other : List ℕ) (difference i : ℕ) → Compared one other difference i
    → Compared one other (bit_or difference (bit_xor (get_or one i 0) (get_or other i 0))) (i + 1)
one_more one other difference i before = record {
  same = λ e. rw (before.same e, e, xor_self (get_or other i 0)) refl;
  each = λ e k below. none_differs one other difference i before e k below (grind arith);
}

pub all_compared : (one other : List ℕ) (difference i : ℕ) → length one ≤ i → length one ≡ length other
    → Compared one other difference i → difference ≡ 0 → one ≡ other
all_compared one other difference i past long before e =
    ext_get_or 0 one other long (λ k below. before.each e k (omega arith))
