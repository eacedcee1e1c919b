-- Addresses as reports of abuse spell them.
use Rattle.std.specs.Prelude.{ℕ, ◌/◌, ◌==◌, ◌<◌, ◌&&◌, Bool, true, false, List, [], ◌∷◌, take, drop, length, codes}
use Rattle.std.specs.Prelude.{Option, Some, None, is_some, option_map, Result, Ok, Err, nat_lt, nat_le, if◌then◌else◌}
use Rattle.std.specs.List.{list_any}
use Rattle.std.specs.Str.{str_eq_ignore_ascii_case}
use Rattle.text_fields.specs.Cuts.{split}
use Rattle.text_fields.specs.Number.{number_of}
use Rattle.text_fields.specs.Parsing.{◌>>!◌}
use Rattle.prefix_range.specs.Prefix.{Prefix}
use Rattle.prefix_range.specs.Parsing.{begins, text_address, spelled, prefix_spelled}
use Rattle.prefix_range.specs.declared.error.PrefixError.{PrefixError}
use Rattle.prefix_range.specs.declared.error.PrefixError.TheVariants.{HostBits}
use Rattle.report_addresses.specs.declared.error.ReportAddressError.{ReportAddressError}
use Rattle.report_addresses.specs.declared.error.ReportAddressError.TheVariants.{Ipv4Mapped, Dotted, ZoneIndex, Port}
use Rattle.report_addresses.specs.declared.error.ReportAddressError.TheVariants.{Length, NoAddress, Memory}
use Rattle.report_addresses.specs.declared.reading.AddressNote.TheVariants.{Nothing, PortPassedOver, LengthPassedOver}
use Rattle.report_addresses.specs.declared.reading.ReportAddress.{ReportAddress}

-- the octet stands in the text
abbrev pub has : ℕ → List ℕ → Bool
has octet text = list_any (λ o. o == octet) text

-- an address as the prefix of it alone
abbrev pub alone : ℕ → Prefix
alone address = record { address = address; length = 128 }

-- one of ::ffff:0:0/96 (RFC 4291, section 2.5.5.2)
abbrev pub is_mapped : Prefix → Bool
is_mapped p = p.address / 4294967296 == 65535

-- an address that is none of those
abbrev pub unmapped : Option Prefix → Result Prefix ReportAddressError
unmapped None = Err NoAddress
unmapped (Some p) = if is_mapped p then Err Ipv4Mapped else Ok p

-- the text begins as those do that are spelled with dots
abbrev pub looks_mapped : List ℕ → Bool
looks_mapped text = if nat_le 7 (length text) then str_eq_ignore_ascii_case (take 7 text) (codes "::ffff:") else false

-- one that isn't spelled with dots
abbrev pub dotless : List ℕ → Result Prefix ReportAddressError
dotless text =
    if has 46 text then Err (if looks_mapped text then Ipv4Mapped else Dotted)
    else unmapped (option_map alone (text_address text))

-- one without a zone index, which stands behind a percent sign (RFC 4007, section 11), by the cuts at these signs
abbrev pub zoneless : List (List ℕ) → Result Prefix ReportAddressError
zoneless [] = Err NoAddress
zoneless (address ∷ []) = dotless address
zoneless (address ∷ zone ∷ more) = Err (if is_some (text_address address) then ZoneIndex else NoAddress)

-- the address that a text spells
abbrev pub address_spelled : List ℕ → Result Prefix ReportAddressError
address_spelled text = zoneless (split 37 text)

-- the same, by the text's cuts at slashes: it has none
abbrev pub slashless : List (List ℕ) → Result Prefix ReportAddressError
slashless (address ∷ []) = address_spelled address
slashless _ = Err NoAddress

-- what is asked of, and what of its text was passed over
abbrev pub asked_whole : Prefix → ReportAddress
asked_whole p = record { prefix = p; note = Nothing }

-- a prefix; or the address, where it has bits past the length
abbrev pub with_length : Prefix → Result Prefix PrefixError → Result ReportAddress ReportAddressError
with_length address (Ok p) = Ok (asked_whole p)
with_length address (Err HostBits) = Ok (record { prefix = address; note = LengthPassedOver })
with_length address (Err _) = Err Length

-- an address, or one with a length, by the text and its cuts at slashes
abbrev pub with_slash : List ℕ → List (List ℕ) → Result ReportAddress ReportAddressError
with_slash text (address ∷ []) = address_spelled address >>! λ p. Ok (asked_whole p)
with_slash text (address ∷ length ∷ []) = address_spelled address >>! λ p. with_length p (prefix_spelled (spelled text))
with_slash text _ = Err NoAddress

-- a port's number
abbrev pub is_port : Option ℕ → Bool
is_port None = false
is_port (Some n) = nat_lt n 65536

-- behind brackets nothing, or a colon and a port
abbrev pub with_port : Prefix → List ℕ → Result ReportAddress ReportAddressError
with_port p [] = Ok (asked_whole p)
with_port p (octet ∷ port) =
    if octet == 58 && is_port (number_of port) then Ok (record { prefix = p; note = PortPassedOver }) else Err Port

-- an address in brackets, by the cuts at closing ones of what stands behind the opening one
abbrev pub bracketed : List (List ℕ) → Result ReportAddress ReportAddressError
bracketed (inside ∷ behind ∷ []) = slashless (split 47 inside) >>! λ p. with_port p behind
bracketed _ = Err NoAddress

-- what a report's text asks of
abbrev pub report_address : List ℕ → Result ReportAddress ReportAddressError
report_address text =
    if begins 91 text then bracketed (split 93 (drop 1 text)) else with_slash text (split 47 text)

-- a refused growth says nothing of a text
abbrev pub fault_of : ReportAddressError → Option ReportAddressError
fault_of Memory = None
fault_of e = Some e
