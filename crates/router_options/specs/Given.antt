-- The options that a server was given (RFC 8415, section 21; RFC 3646; RFC 4075).
use Rattle.std.specs.Prelude.{ℕ, List, [], ◌∷◌, ◌++◌, Option, Some, None}
use Rattle.std.specs.List.{flat_map}
use Rattle.byteorder.specs.Endian.{big_bytes}
use Rattle.router_options.specs.declared.options.RouterOptions.{RouterOptions}
use Rattle.router_options.specs.Ready.{Ready}

abbrev pub option_of : ℕ → List ℕ → Ready
option_of code octets = record { code = code; octets = octets }

-- an option of one number, of so many octets, highest first; none where there is none
abbrev pub number_option : ℕ → ℕ → Option ℕ → List Ready
number_option size code None = []
number_option size code (Some number) = option_of code (big_bytes size number) ∷ []

-- addresses of sixteen octets each
abbrev pub addresses_octets : List ℕ → List ℕ
addresses_octets addresses = flat_map (big_bytes 16) addresses

-- no empty list is handed out
abbrev pub addresses_option : ℕ → List ℕ → List Ready
addresses_option code [] = []
addresses_option code (x ∷ xs) = option_of code (addresses_octets (x ∷ xs)) ∷ []

-- names one behind the other, each of which is its octets
abbrev pub names_octets : List (List ℕ) → List ℕ
names_octets names = flat_map (λ name. name) names

-- one address, or none
abbrev pub listed : Option ℕ → List ℕ
listed None = []
listed (Some address) = address ∷ []

abbrev pub search_option : List (List ℕ) → List Ready
search_option [] = []
search_option (x ∷ xs) = option_of 24 (names_octets (x ∷ xs)) ∷ []

-- each option that was given, in ascending order of the codes
abbrev pub options_of : RouterOptions → List Ready
options_of o = number_option 1 7 o.preference
    ++ (addresses_option 12 (listed o.unicast)
    ++ (addresses_option 23 o.dns.items
    ++ (search_option o.search.items
    ++ (addresses_option 31 o.sntp.items ++ number_option 4 32 o.information_refresh))))
