-- Octets in hexadecimal, two lower-case digits each.
use Rattle.std.specs.Prelude.{ℕ, ◌+◌, ◌-◌, ◌*◌, ◌/◌, ◌%◌, ◌<◌, List, [], ◌∷◌, ◌&&◌, Option, Some, None, option_map}
use Rattle.std.specs.Prelude.{nat_lt, nat_le, if◌then◌else◌}
use Rattle.std.specs.List.{AllByRecursion}
use Rattle.text_fields.specs.Parsing.{◌>>=◌}

abbrev pub AreOctets : List ℕ → Type 0
AreOctets octets = AllByRecursion (λ x. x < 256) octets

-- the digit of a number below 16
abbrev pub hex_digit : ℕ → ℕ
hex_digit n = if nat_lt n 10 then 48 + n else 87 + n

-- two digits for each octet
abbrev pub hex : List ℕ → List ℕ
hex [] = []
hex (x ∷ octets) = hex_digit (x / 16) ∷ hex_digit (x % 16) ∷ hex octets

unfoldable pub hex_value : ℕ → Option ℕ
hex_value b =
    if nat_le 48 b && nat_le b 57 then Some (b - 48) else if nat_le 97 b && nat_le b 102 then Some (b - 87) else None

unfoldable pub octet_of : ℕ → ℕ → Option ℕ
octet_of a b = do
  high ← hex_value a
  low ← hex_value b
  Some (16 * high + low)

-- the octets that a word of digits spells
unfoldable pub octets_of : List ℕ → Option (List ℕ)
octets_of [] = Some []
octets_of (a ∷ []) = None
octets_of (a ∷ b ∷ word) = do
  x ← octet_of a b
  option_map (λ xs. x ∷ xs) (octets_of word)
