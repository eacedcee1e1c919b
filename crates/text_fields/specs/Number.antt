-- Decimal numbers: `decimal n` has no leading zero and no sign.
use Rattle.std.specs.Prelude.{ℕ, ◌+◌, ◌-◌, ◌*◌, ◌^◌, List, [], ◌∷◌, ◌&&◌, Option, Some, None, nat_lt, ◌==◌}
use Rattle.std.specs.Prelude.{if◌then◌else◌}
use Rattle.std.specs.Char.{is_ascii_digit}
use Rattle.text_fields.specs.Parsing.{◌>>=◌}

-- the number n with one more digit, where it fits 64 bits
unfoldable pub with_digit : ℕ → ℕ → Option ℕ
with_digit n b = if is_ascii_digit b && nat_lt (10 * n + (b - 48)) (2 ^ 64) then Some (10 * n + (b - 48)) else None

-- the number that n and the digits of a word make
unfoldable pub digits_of : ℕ → List ℕ → Option ℕ
digits_of n [] = Some n
digits_of n (b ∷ word) = do
  m ← with_digit n b
  digits_of m word

-- the number that a word spells: it has digits, no zero leads others, and it fits 64 bits
unfoldable pub number_of : List ℕ → Option ℕ
number_of [] = None
number_of (b ∷ []) = digits_of 0 (b ∷ [])
number_of (b ∷ c ∷ word) = if b == 48 then None else digits_of 0 (b ∷ c ∷ word)
