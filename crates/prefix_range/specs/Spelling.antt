-- The texts of a prefix: an address in form 1 or 2 of RFC 4291, section 2.2, a slash and the length (section 2.3).
-- Many texts spell one prefix.
use Rattle.std.specs.Prelude.{◌≡◌, ℕ, ◌+◌, ◌-◌, ◌*◌, ◌<◌, ◌≤◌, ◌⊎◌, ⊤, List, [], ◌∷◌, ◌++◌, length, replicate, Option}
use Rattle.std.specs.Prelude.{Some, None, ◌&&◌, nat_lt, nat_le, if◌then◌else◌}
use Rattle.text_fields.specs.Parsing.{◌>>=◌}
use Rattle.text_fields.specs.Cuts.{joined}

-- what a digit stands for: 0 to 9, and a to f in either case
abbrev pub digit_value : ℕ → Option ℕ
digit_value b =
    if nat_le 48 b && nat_le b 57 then Some (b - 48)
    else (if nat_le 97 b && nat_le b 102 then Some (b - 87)
    else (if nat_le 65 b && nat_le b 70 then Some (b - 55) else None))

-- the number n with one more digit of a base, where it fits 16 bits, as four digits of base 16 do
unfoldable pub with_digit : ℕ → ℕ → ℕ → Option ℕ
with_digit base n b = do
  d ← digit_value b
  if nat_lt d base && nat_lt (base * n + d) 65536 then Some (base * n + d) else None

-- the number that n and the digits of a word make
unfoldable pub digits_on : ℕ → ℕ → List ℕ → Option ℕ
digits_on base n [] = Some n
digits_on base n (b ∷ word) = do
  m ← with_digit base n b
  digits_on base m word

-- the word is this number in a base: one digit or more, at most so many
pub record IsNumeral (base most : ℕ) (word : List ℕ) (n : ℕ) : Type 0 where
  pub some : 0 < length word
  pub short : length word ≤ most
  pub value : digits_on base 0 word ≡ Some n

-- each word is the hexadecimal numeral of its group of 16 bits
abbrev pub AreGroups : List (List ℕ) → List ℕ → Type 0
AreGroups [] [] = ⊤
AreGroups (word ∷ words) (group ∷ groups) = IsNumeral 16 4 word group × AreGroups words groups
AreGroups _ _ = ⊥

-- the address that more groups of 16 bits make behind one so far
unfoldable pub value_on : ℕ → List ℕ → ℕ
value_on address [] = address
value_on address (group ∷ groups) = value_on (65536 * address + group) groups

abbrev pub value_of : List ℕ → ℕ
value_of groups = value_on 0 groups

-- form 1: eight groups with a colon between each two
pub record IsWhole (text : List ℕ) (address : ℕ) : Type 0 where
  pub words : List (List ℕ)
  pub groups : List ℕ
  pub text_is : text ≡ joined 58 words
  pub are : AreGroups words groups
  pub eight : length groups ≡ 8
  pub value : address ≡ value_of groups

-- form 2: two colons in the place of one group of zeros or more; before them and behind them groups with a colon
-- between each two, or none
pub record IsShortened (text : List ℕ) (address : ℕ) : Type 0 where
  pub before : List (List ℕ)
  pub behind : List (List ℕ)
  pub front : List ℕ
  pub back : List ℕ
  pub zeros : ℕ
  pub text_is : text ≡ joined 58 before ++ 58 ∷ 58 ∷ joined 58 behind
  pub are_before : AreGroups before front
  pub are_behind : AreGroups behind back
  pub some : 0 < zeros
  pub eight : length front + zeros + length back ≡ 8
  pub value : address ≡ value_of (front ++ replicate zeros 0 ++ back)

abbrev pub SpellsAddress : List ℕ → ℕ → Type 0
SpellsAddress text address = IsWhole text address ⊎ IsShortened text address

-- an address, a slash, and one to three decimal digits
pub record Spells (text : List ℕ) (address length : ℕ) : Type 0 where
  pub front : List ℕ
  pub digits : List ℕ
  pub text_is : text ≡ front ++ 47 ∷ digits
  pub spells : SpellsAddress front address
  pub numeral : IsNumeral 10 3 digits length
