-- What a client asks for beside the first prefix of each IA_PD (RFC 8415, sections 21.4, 21.5, 21.7 and 21.21): what
-- any octets say of it.
use Rattle.std.specs.Prelude.{ℕ, ◌%◌, ◌==◌, List, [], ◌∷◌, ◌++◌, length, Option, Some, None, Result, Ok, Err, nat_lt}
use Rattle.std.specs.Prelude.{if◌then◌else◌}
use Rattle.byteorder.specs.Endian.{big_number}
use Rattle.text_fields.specs.Parsing.{◌>>!◌}
use Rattle.dhcp6_pd.specs.declared.error.PdFault.{PdFault}
use Rattle.dhcp6_pd.specs.declared.error.PdFault.TheVariants.{OptionLength, DuplicateId}
use Rattle.dhcp6_pd.specs.declared.numbers.TheConstants.{OPTION_REQUEST, IA_NA, IA_TA, IA_PD}
use Rattle.dhcp6_pd.specs.declared.requested_items.RequestedItems.{RequestedItems}
use Rattle.dhcp6_pd.specs.Options.{DhcpOption}
use Rattle.dhcp6_pd.specs.Associations.{prefixes_in}
use Rattle.dhcp6_pd.specs.Rows.{row_of, folded}

-- codes of two octets each, up to a last odd one
abbrev pub codes_of : List ℕ → List ℕ
codes_of [] = []
codes_of (x ∷ []) = []
codes_of (x ∷ y ∷ rest) = big_number 2 (x ∷ y ∷ rest) ∷ codes_of rest

-- the data of an option request: codes and nothing else
unfoldable pub request_in : List ℕ → Result (List ℕ) PdFault
request_in octets = if length octets % 2 == 0 then Ok (codes_of octets) else Err OptionLength

-- it may stand once
unfoldable pub request_once : Option (List ℕ) → List ℕ → Result (Option (List ℕ)) PdFault
request_once None octets = request_in octets >>! λ codes. Ok (Some codes)
request_once (Some codes) octets = Err DuplicateId

-- one identity association more, whose fixed part has so many octets; a shorter one is passed over
unfoldable pub with_iaid : ℕ → List ℕ → List ℕ → List ℕ
with_iaid least ias octets = if nat_lt (length octets) least then ias else ias ++ big_number 4 octets ∷ []

unfoldable pub wish_option : RequestedItems → DhcpOption → Result RequestedItems PdFault
wish_option w o =
    if o.code == OPTION_REQUEST
    then (request_once w.requested o.octets >>! λ requested. Ok (record w { requested = requested }))
    else if o.code == IA_NA then Ok (record w { addresses = with_iaid 12 w.addresses o.octets })
    else if o.code == IA_TA then Ok (record w { temporaries = with_iaid 4 w.temporaries o.octets })
    else if o.code == IA_PD then Ok (record w { prefixes = w.prefixes ++ prefixes_in o.octets })
    else Ok w

abbrev pub no_wishes : RequestedItems
no_wishes = record { requested = None; addresses = []; temporaries = []; prefixes = [] }

abbrev pub wishes_in : List ℕ → Result RequestedItems PdFault
wishes_in octets = folded wish_option no_wishes (row_of octets)

-- where nothing is asked for, no codes
abbrev pub or_none : Option (List ℕ) → List ℕ
or_none None = []
or_none (Some codes) = codes
