-- Which texts spell a key.
use Rattle.std.specs.Prelude.{ℕ, ◌-◌, ◌==◌, nat_lt, List, length, take, slice_index_or, if◌then◌else◌, Result, Ok, Err}
use Rattle.hex.specs.Hex.{decode_of}
use Rattle.hex.specs.declared.error.FromHexError.{FromHexError}
use Rattle.link_auth.specs.declared.key.KeyError.{KeyError}
use Rattle.link_auth.specs.declared.key.KeyError.TheVariants.{TooShort, TooLong, NotHexadecimal}

-- a text without the line feed at its end, where it ends with one
abbrev pub line_of : (text : List ℕ) → List ℕ
line_of text = if slice_index_or text (length text - 1) 0 == 10 then take (length text - 1) text else text

abbrev pub octets_in : Result (List ℕ) FromHexError → Result (List ℕ) KeyError
octets_in (Ok octets) = Ok octets
octets_in (Err e) = Err NotHexadecimal

-- the octets of a line of digits: 64 to 128 of them, two for each octet
abbrev pub octets_of : (digits : List ℕ) → Result (List ℕ) KeyError
octets_of digits =
    if nat_lt (length digits) 64 then Err TooShort
    else if nat_lt 128 (length digits) then Err TooLong
    else octets_in (decode_of digits)

abbrev pub key_of : (text : List ℕ) → Result (List ℕ) KeyError
key_of text = octets_of (line_of text)
