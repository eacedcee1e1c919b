-- The canonical text of a prefix: eight groups of four lower-case digits, a slash, the length (RFC 4291, sections 2.2
-- and 2.3).
use Rattle.std.specs.Prelude.{ℕ, zero, suc, ◌+◌, ◌*◌, ◌/◌, ◌%◌, ◌^◌, ◌==◌, List, [], ◌∷◌, ◌++◌, length, Option, Some}
use Rattle.std.specs.Prelude.{None, map, option_map, nat_lt, nat_le, if◌then◌else◌}
use Rattle.std.specs.Fmt.{decimal}
use Rattle.std.specs.Int.{w16, to_be_bytes, from_be_bytes}
use Rattle.text_fields.specs.Parsing.{◌>>=◌}
use Rattle.text_fields.specs.Cuts.{joined, split}
use Rattle.text_fields.specs.Octets.{hex, octets_of}
use Rattle.text_fields.specs.Number.{number_of}
use Rattle.prefix_range.specs.Prefix.{Prefix, size_of}

-- the lowest 16 n bits of an address as n groups, the highest first
unfoldable pub groups_of : ℕ → ℕ → List ℕ
groups_of zero address = []
groups_of (suc n) address = groups_of n (address / 65536) ++ address % 65536 ∷ []

-- the four digits of a group
abbrev pub group_text : ℕ → List ℕ
group_text group = hex (to_be_bytes w16 group)

unfoldable pub address_text : ℕ → List ℕ
address_text address = joined 58 (map group_text (groups_of 8 address))

abbrev pub prefix_text : Prefix → List ℕ
prefix_text p = joined 47 (address_text p.address ∷ decimal p.length ∷ [])

-- The same, read.

-- the group that four digits spell
unfoldable pub group_of : List ℕ → Option ℕ
group_of word = if length word == 4 then option_map (from_be_bytes w16) (octets_of word) else None

-- an address so far with one more group, where it fits 128 bits
unfoldable pub with_group : ℕ → ℕ → Option ℕ
with_group address group = if nat_lt (65536 * address + group) (2 ^ 128) then Some (65536 * address + group) else None

-- the address that the groups so far make with this many more
unfoldable pub address_on : ℕ → ℕ → List (List ℕ) → Option ℕ
address_on zero address [] = Some address
address_on zero address (word ∷ words) = None
address_on (suc n) address [] = None
address_on (suc n) address (word ∷ words) = do
  group ← group_of word
  more ← with_group address group
  address_on n more words

abbrev pub address_of : List ℕ → Option ℕ
address_of text = address_on 8 0 (split 58 text)

-- the prefix of an address and a length
abbrev pub made : ℕ → ℕ → Option Prefix
made address length =
    if nat_le length 128 then
    (if address % size_of length == 0 then Some (record { address = address; length = length }) else None) else None

abbrev pub parts_prefix : List (List ℕ) → Option Prefix
parts_prefix (address ∷ length ∷ []) = do
  a ← address_of address
  n ← number_of length
  made a n
parts_prefix _ = None

-- the prefix that a word spells in canonical form
unfoldable pub prefix_word : List ℕ → Option Prefix
prefix_word word = parts_prefix (split 47 word)
