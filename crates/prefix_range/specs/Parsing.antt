-- The same texts, parsed from the front.
use Rattle.std.specs.Prelude.{ℕ, zero, suc, ◌+◌, ◌-◌, ◌==◌, ◌&&◌, Bool, false, List, [], ◌∷◌, ◌++◌, length, drop}
use Rattle.std.specs.Prelude.{Option, Some, None, option_map, nat_lt, nat_le, if◌then◌else◌, ◌%◌, Result, Ok, Err}
use Rattle.text_fields.specs.Parsing.{◌>>=◌}
use Rattle.text_fields.specs.Cuts.{split}
use Rattle.prefix_range.specs.declared.error.PrefixError.{PrefixError}
use Rattle.prefix_range.specs.declared.error.PrefixError.TheVariants.{LengthOver128, HostBits, Text}
use Rattle.prefix_range.specs.Prefix.{Prefix, size_of}
use Rattle.prefix_range.specs.Spelling.{digits_on, value_of}

unfoldable pub numeral_in : ℕ → ℕ → List ℕ → Option ℕ
numeral_in base most word = if nat_lt 0 (length word) && nat_le (length word) most then digits_on base 0 word else None

-- the words between colons: none in an empty text
abbrev pub words_of : List ℕ → List (List ℕ)
words_of [] = []
words_of (b ∷ text) = split 58 (b ∷ text)

-- the groups so far with one more, of eight at most
unfoldable pub with_one : List ℕ → ℕ → Option (List ℕ)
with_one groups group = if nat_lt (length groups) 8 then Some (groups ++ group ∷ []) else None

-- the groups so far with those of these words
unfoldable pub groups_on : List ℕ → List (List ℕ) → Option (List ℕ)
groups_on groups [] = Some groups
groups_on groups (word ∷ words) = do
  group ← numeral_in 16 4 word
  more ← with_one groups group
  groups_on more words

-- with so many groups of zeros
unfoldable pub padded : List ℕ → ℕ → Option (List ℕ)
padded groups zero = Some groups
padded groups (suc n) = do
  more ← with_one groups 0
  padded more n

-- what stands before the first two colons that are neighbours, and what stands behind them
abbrev pub begins : ℕ → List ℕ → Bool
begins stop [] = false
begins stop (b ∷ text) = b == stop

unfoldable pub cut : List ℕ → Option (List ℕ × List ℕ)
cut [] = None
cut (b ∷ text) =
    if b == 58 && begins 58 text then Some ([], drop 1 text) else option_map (λ x. (b ∷ x.0, x.1)) (cut text)

-- the groups before the colons, zeros, and those of the words behind them: at least one group of zeros, and eight in
-- all
unfoldable pub with_gap : List ℕ → List (List ℕ) → Option (List ℕ)
with_gap front words = do
  back ← groups_on [] words
  gap ← (if nat_le (length front + length back) 7 then padded front (8 - (length front + length back)) else None)
  groups_on gap words

abbrev pub groups_cut : List ℕ → Option (List ℕ × List ℕ) → Option (List ℕ)
groups_cut text None = groups_on [] (words_of text)
groups_cut text (Some x) = groups_on [] (words_of x.0) >>= λ front. with_gap front (words_of x.1)

-- the address of eight groups
unfoldable pub whole : List ℕ → Option ℕ
whole groups = if length groups == 8 then Some (value_of groups) else None

unfoldable pub text_address : List ℕ → Option ℕ
text_address text = do
  groups ← groups_cut text (cut text)
  whole groups

abbrev pub parts_spelled : List (List ℕ) → Option (ℕ × ℕ)
parts_spelled (front ∷ digits ∷ []) = do
  address ← text_address front
  length ← numeral_in 10 3 digits
  Some (address, length)
parts_spelled _ = None

unfoldable pub spelled : List ℕ → Option (ℕ × ℕ)
spelled text = parts_spelled (split 47 text)

-- the prefix of an address and a length, or why they are none
abbrev pub prefix_in : ℕ → ℕ → Result Prefix PrefixError
prefix_in address length =
    if nat_lt 128 length then Err LengthOver128
    else (if address % size_of length == 0 then Ok (record { address = address; length = length }) else Err HostBits)

abbrev pub prefix_spelled : Option (ℕ × ℕ) → Result Prefix PrefixError
prefix_spelled None = Err Text
prefix_spelled (Some x) = prefix_in x.0 x.1
