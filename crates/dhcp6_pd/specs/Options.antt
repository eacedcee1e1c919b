-- Options one after the other (RFC 8415, section 21.1): in a message, in a relay's message or in an IA_PD.
use Rattle.std.specs.Prelude.{◌≡◌, ℕ, ◌^◌, ◌<◌, ◌==◌, List, [], ◌∷◌, length, if◌then◌else◌}
use Rattle.std.specs.List.{flat_map, AllByRecursion}
use Rattle.text_fields.specs.Octets.{AreOctets}
use Rattle.dhcp6_pd.specs.Layout.{option_octets}

-- an option: its code and its data
pub record DhcpOption : Type 0 where
  pub code : ℕ
  pub octets : List ℕ

pub record IsOption (o : DhcpOption) : Type 0 where
  pub code : o.code < 2 ^ 16
  pub size : length o.octets < 2 ^ 16
  pub octets : AreOctets o.octets

abbrev pub octets_of : List DhcpOption → List ℕ
octets_of options = flat_map (λ o. option_octets o.code o.octets) options

-- the octets are these options, one after the other
pub record AreOptions (octets : List ℕ) (options : List DhcpOption) : Type 0 where
  pub each : AllByRecursion IsOption options
  pub spelled : octets ≡ octets_of options

-- the data of the options with this code, in their order
abbrev pub data_of : ℕ → List DhcpOption → List (List ℕ)
data_of code [] = []
data_of code (o ∷ options) = if o.code == code then o.octets ∷ data_of code options else data_of code options
