-- DUIDs (RFC 8415, section 11.1: a type of two octets and 1 to 128 octets more) and IAIDs (section 12), in octets and
-- in text.
use Rattle.std.specs.Prelude.{◌≡◌, ℕ, ◌≤◌, ◌==◌, List, length, Option, Some, None, option_map, Result, Ok, Err, nat_lt}
use Rattle.std.specs.Prelude.{if◌then◌else◌}
use Rattle.std.specs.Int.{w32, to_be_bytes, from_be_bytes}
use Rattle.text_fields.specs.Octets.{AreOctets, hex, octets_of}
use Rattle.client_id.specs.declared.error.ClientIdError.{ClientIdError}
use Rattle.client_id.specs.declared.error.ClientIdError.TheVariants.{TooShort, TooLong, Hex}

pub record IsDuid (octets : List ℕ) : Type 0 where
  pub fits : AreOctets octets
  pub least : 3 ≤ length octets
  pub most : length octets ≤ 130

-- the digits of some octets
abbrev pub IsHex : List ℕ → Type 0
IsHex text = (octets : List ℕ) × AreOctets octets × (text ≡ hex octets)

-- an IAID as text: the eight digits of its four octets
abbrev pub iaid_text : ℕ → List ℕ
iaid_text iaid = hex (to_be_bytes w32 iaid)

-- what octets are as a DUID
abbrev pub duid_in : List ℕ → Result (List ℕ) ClientIdError
duid_in octets =
    if nat_lt (length octets) 3 then Err TooShort else if nat_lt 130 (length octets) then Err TooLong else Ok octets

-- what a text is as a DUID: first a fault of its digits, then one of its length
abbrev pub duid_by : Option (List ℕ) → Result (List ℕ) ClientIdError
duid_by None = Err Hex
duid_by (Some octets) = duid_in octets

unfoldable pub duid_of : List ℕ → Result (List ℕ) ClientIdError
duid_of text = duid_by (octets_of text)

abbrev pub found_duid : Result (List ℕ) ClientIdError → Option (List ℕ)
found_duid (Ok octets) = Some octets
found_duid (Err e) = None

-- the DUID that a word spells
abbrev pub duid_word : List ℕ → Option (List ℕ)
duid_word word = found_duid (duid_of word)

-- the IAID that a word spells
unfoldable pub iaid_word : List ℕ → Option ℕ
iaid_word word = if length word == 8 then option_map (from_be_bytes w32) (octets_of word) else None
