-- Identity associations for prefix delegation, and their prefixes (RFC 8415, sections 21.21 and 21.22): what any octets
-- are as one.
use Rattle.std.specs.Prelude.{ℕ, ◌-◌, ◌%◌, ◌==◌, List, [], ◌∷◌, length, drop, slice_index, Option, Some, None}
use Rattle.std.specs.Prelude.{Result, Ok, Err, nat_lt, if◌then◌else◌}
use Rattle.byteorder.specs.Endian.{big_number}
use Rattle.prefix_range.specs.Prefix.{Prefix, size_of}
use Rattle.text_fields.specs.Parsing.{◌>>!◌}
use Rattle.dhcp6_pd.specs.declared.error.PdFault.{PdFault}
use Rattle.dhcp6_pd.specs.declared.error.PdFault.TheVariants.{OptionLength, BadPrefixLength}
use Rattle.dhcp6_pd.specs.declared.message.ClientKind.{ClientKind}
use Rattle.dhcp6_pd.specs.declared.message.ClientKind.TheVariants.{Release}
use Rattle.dhcp6_pd.specs.declared.message.ClientMessage.{ClientMessage}
use Rattle.dhcp6_pd.specs.declared.message.IaPd.{IaPd}
use Rattle.dhcp6_pd.specs.declared.message.IaPart.{IaPart}
use Rattle.dhcp6_pd.specs.declared.message.IaPart.TheVariants.{First, Further}
use Rattle.dhcp6_pd.specs.declared.numbers.TheConstants.{IA_PREFIX}
use Rattle.dhcp6_pd.specs.Options.{DhcpOption}
use Rattle.dhcp6_pd.specs.Rows.{Row, Done, Broken, Next, row_of, folded}

-- ---- one with its first prefix

-- the address with the bits past the length cleared
abbrev pub cleared : ℕ → ℕ → ℕ
cleared length address = address - address % size_of length

-- the address behind two lifetimes and a length
unfoldable pub address_of : List ℕ → ℕ
address_of octets = big_number 16 (drop 9 octets)

-- the data of an IAPREFIX: two lifetimes of four octets, the prefix's length, its address
unfoldable pub prefix_in : List ℕ → Result Prefix PdFault
prefix_in octets =
    if nat_lt (length octets) 25 then Err OptionLength
    else if nat_lt 128 (slice_index octets 8) then Err BadPrefixLength
    else Ok (record { address = cleared (slice_index octets 8) (address_of octets); length = slice_index octets 8 })

-- the first IAPREFIX is the hint, and all others are skipped
unfoldable pub with_hint : Option Prefix → DhcpOption → Result (Option Prefix) PdFault
with_hint None o = if o.code == IA_PREFIX then (prefix_in o.octets >>! λ p. Ok (Some p)) else Ok None
with_hint (Some p) o = Ok (Some p)

abbrev pub ia_of : List ℕ → Option Prefix → IaPd
ia_of octets hint = record { iaid = big_number 4 octets; hint = hint; part = First }

-- the data of an IA_PD: IAID, T1 and T2 of four octets each, options
unfoldable pub ia_in : List ℕ → Result IaPd PdFault
ia_in octets =
    if nat_lt (length octets) 12 then Err OptionLength
    else (folded with_hint None (row_of (drop 12 octets)) >>! λ hint. Ok (ia_of octets hint))

-- ---- one for each of its prefixes

abbrev pub found_in : Result Prefix PdFault → Option Prefix
found_in (Ok p) = Some p
found_in (Err fault) = None

-- the prefix of an option that is an IAPREFIX which can be read
abbrev pub read_of : DhcpOption → Option Prefix
read_of o = if o.code == IA_PREFIX then found_in (prefix_in o.octets) else None

abbrev pub and_read : Option Prefix → List Prefix → List Prefix
and_read None prefixes = prefixes
and_read (Some p) prefixes = p ∷ prefixes

-- those of all options, up to the end or to what is none
abbrev pub read_prefixes : Row → List Prefix
read_prefixes Done = []
read_prefixes (Broken fault) = []
read_prefixes (Next o row) = and_read (read_of o) (read_prefixes row)

-- The association once for each of these prefixes: the first of them and those that are further. Without one it is the
-- first, and has no hint.
abbrev pub for_each : IaPart → ℕ → List Prefix → List IaPd
for_each First iaid [] = record { iaid = iaid; hint = None; part = First } ∷ []
for_each Further iaid [] = []
for_each part iaid (p ∷ prefixes) =
    record { iaid = iaid; hint = Some p; part = part } ∷ for_each Further iaid prefixes

-- the data of an IA_PD; where it is too short there is none
unfoldable pub prefixes_in : List ℕ → List IaPd
prefixes_in octets =
    if nat_lt (length octets) 12 then []
    else for_each First (big_number 4 octets) (read_prefixes (row_of (drop 12 octets)))

-- ---- a RELEASE

abbrev pub by_prefix_of : ClientKind → ClientMessage → ClientMessage
by_prefix_of Release m = record m { ias = m.prefixes; prefixes = m.ias }
by_prefix_of kind m = m

-- a RELEASE whose IA_PDs stand once for each of their prefixes; any other message as it is
abbrev pub by_prefix : ClientMessage → ClientMessage
by_prefix m = by_prefix_of m.kind m
