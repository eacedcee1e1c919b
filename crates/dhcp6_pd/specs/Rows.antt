-- Any octets, as far as they are options, and what the options make of what is known, up to the first fault.
use Rattle.std.specs.Prelude.{ℕ, zero, suc, ◌+◌, ◌==◌, List, [], ◌∷◌, length, take, drop, Result, Ok, Err, nat_lt}
use Rattle.std.specs.Prelude.{if◌then◌else◌}
use Rattle.byteorder.specs.Endian.{big_number}
use Rattle.text_fields.specs.Parsing.{◌>>!◌}
use Rattle.dhcp6_pd.specs.declared.error.PdFault.{PdFault}
use Rattle.dhcp6_pd.specs.declared.error.PdFault.TheVariants.{Short, OptionLength}
use Rattle.dhcp6_pd.specs.declared.numbers.TheConstants.{CLIENT_ID, SERVER_ID, RELAY_MESSAGE, INTERFACE_ID, IA_PD}
use Rattle.dhcp6_pd.specs.declared.numbers.TheConstants.{IA_PREFIX, REMOTE_ID}
use Rattle.dhcp6_pd.specs.declared.option_code.OptionCode.{OptionCode}
use Rattle.dhcp6_pd.specs.declared.option_code.OptionCode.TheVariants.{ClientId, ServerId, RelayMessage, InterfaceId}
use Rattle.dhcp6_pd.specs.declared.option_code.OptionCode.TheVariants.{RemoteId, IaPd, IaPrefix, Other}
use Rattle.dhcp6_pd.specs.Options.{DhcpOption}

-- options up to the end, or up to a fault
pub data Row : Type 0 where
  Done : Row
  Broken : PdFault → Row
  Next : DhcpOption → Row → Row

-- The row behind so many octets. An option has four octets of code and length and then as many as the length says:
-- where fewer than four are left they are Short, where fewer than the length says OptionLength.
unfoldable pub row_behind : ℕ → List ℕ → Row
row_behind zero [] = Done
row_behind zero (x ∷ octets) =
    if nat_lt (length octets) 3 then Broken Short
    else if nat_lt (length (drop 3 octets)) (big_number 2 (drop 1 octets)) then Broken OptionLength
    else Next
    (record { code = big_number 2 (x ∷ octets); octets = take (big_number 2 (drop 1 octets)) (drop 3 octets) })
    (row_behind (3 + big_number 2 (drop 1 octets)) octets)
row_behind (suc n) [] = Done
row_behind (suc n) (x ∷ octets) = row_behind n octets

abbrev pub row_of : List ℕ → Row
row_of octets = row_behind 0 octets

-- which options are read (section 21, and RFC 4649)
unfoldable pub code_of : ℕ → OptionCode
code_of code =
    if code == CLIENT_ID then ClientId
    else if code == SERVER_ID then ServerId
    else if code == RELAY_MESSAGE then RelayMessage
    else if code == INTERFACE_ID then InterfaceId
    else if code == REMOTE_ID then RemoteId
    else if code == IA_PD then IaPd
    else if code == IA_PREFIX then IaPrefix
    else Other

-- what the options of a row make of what is known, one after the other, up to the first fault
unfoldable pub folded : {S : Type 0} → (S → DhcpOption → Result S PdFault) → S → Row → Result S PdFault
folded step s Done = Ok s
folded step s (Broken fault) = Err fault
folded step s (Next o row) = step s o >>! λ more. folded step more row
