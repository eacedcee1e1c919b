-- What a server that goes on for years runs by, of the members of a TOML document.
use Rattle.std.specs.Prelude.{◌≡◌, ◌&&◌, ◌/◌, max, ⊤, ℕ, ℤ, pos, negsuc, Bool, true, false, nat_le, List, codes, Option}
use Rattle.std.specs.Prelude.{Some, None}
use Rattle.std.specs.Prelude.{if◌then◌else◌, IsSome, option_map, ◌⊎◌, ◌≢◌, [], string_bytes}
use Rattle.toml.specs.Data.{Data, Members, get_member, as_integer, as_bool, as_str}
use Rattle.text_fields.specs.Parsing.{◌>>=◌}
use Rattle.book_state.specs.Places.{AreDisjoint}
use Rattle.server_settings.specs.Settings.{ServerSettings, AreWithin}
use Rattle.server_settings.specs.Document.{IsDocument, named_in}
use Rattle.server_timers.specs.Timers.{TimerSettings}
use Rattle.server_settings.specs.declared.error.OpenError.{OpenError}
use Rattle.server_settings.specs.declared.error.OpenError.TheVariants.{Overlap, Memory as NoMemory}
use Rattle.serve_settings.specs.declared.error.ServeSettingsError.{ServeSettingsError}
use Rattle.serve_settings.specs.declared.error.ServeSettingsError.TheVariants.{Node, Heartbeat, VolumeLines}
use Rattle.serve_settings.specs.declared.error.ServeSettingsError.TheVariants.{VolumeHours}
use Rattle.serve_settings.specs.declared.error.ServeSettingsError.TheVariants.{Alone, NoPartner, PartnerOfAlone}
use Rattle.serve_settings.specs.declared.error.ServeSettingsError.TheVariants.{NoLinkKey, LinkKey, RenewFloor}
use Rattle.serve_settings.specs.declared.error.ServeSettingsError.TheVariants.{IasPerMessage, UnitsPerClient}
use Rattle.serve_settings.specs.declared.error.ServeSettingsError.TheVariants.{UnitsPerPort, ClientRate, BindToPort}
use Rattle.serve_settings.specs.declared.error.ServeSettingsError.TheVariants.{ReplyPolicy}
use Rattle.reply_settings.specs.Keys.{IsReplyPolicyFault}
use Rattle.client_limits.specs.declared.limits.Limits.{Limits as Quotas}
use Rattle.client_limits.specs.declared.limits.PortRule.{PortRule}
use Rattle.client_limits.specs.declared.limits.PortRule.TheVariants.{Free, Bound}
use Rattle.serve_settings.specs.declared.quotas.Shares.{Shares}
use Rattle.serve_settings.specs.declared.protection.LinkProtection.{LinkProtection}
use Rattle.serve_settings.specs.declared.protection.LinkProtection.TheVariants.{KeyFile, OtherLayer}

-- ---- truth values

abbrev pub bool_or : Bool → Option Data → Option Bool
bool_or unsaid None = Some unsaid
bool_or unsaid (Some value) = as_bool value

-- ---- numbers

abbrev pub within : ℕ → ℤ → Option ℕ
within most (pos n) = if nat_le 1 n && nat_le n most then Some n else None
within most (negsuc n) = None

-- a whole number from 1 to the limit
unfoldable pub counted : ℕ → Data → Option ℕ
counted most value = as_integer value >>= within most

abbrev pub counted_or : ℕ → ℕ → Option Data → Option ℕ
counted_or unsaid most None = Some unsaid
counted_or unsaid most (Some value) = counted most value

-- the same at a key, or what is meant where the key isn't there
unfoldable pub limit_at : List ℕ → ℕ → ℕ → Members → Option ℕ
limit_at key unsaid most members = counted_or unsaid most (get_member key members)

abbrev pub heartbeat_in : Members → Option ℕ
heartbeat_in members = limit_at (codes "heartbeat") 60 31536000 members

abbrev pub volume_lines_in : Members → Option ℕ
volume_lines_in members = limit_at (codes "volume_lines") 200000 1048575 members

abbrev pub volume_hours_in : Members → Option ℕ
volume_hours_in members = limit_at (codes "volume_hours") 24 8760 members

-- when the server owes something
unfoldable pub limits_in : Members → Option TimerSettings
limits_in members = do
  heartbeat ← heartbeat_in members
  volume_lines ← volume_lines_in members
  volume_hours ← volume_hours_in members
  Some (record { heartbeat = heartbeat; volume_lines = volume_lines; volume_hours = volume_hours })

abbrev pub IsLimitFault : Members → ServeSettingsError → Type 0
IsLimitFault m Heartbeat = heartbeat_in m ≡ None
IsLimitFault m VolumeLines = volume_lines_in m ≡ None
IsLimitFault m VolumeHours = volume_hours_in m ≡ None
IsLimitFault m _ = ⊥

-- ---- grants that are told again

-- a whole number of seconds, a year at most
abbrev pub floor_within : ℤ → Option ℕ
floor_within (pos n) = if nat_le n 31536000 then Some n else None
floor_within (negsuc n) = None

unfoldable pub floor_of : Data → Option ℕ
floor_of value = as_integer value >>= floor_within

-- where nothing is said, a tenth of the desired lifetime, and 10 at least
abbrev pub floor_or : ℕ → Option Data → Option ℕ
floor_or life None = Some (max 10 (life / 10))
floor_or life (Some value) = floor_of value

-- the age in seconds from which on a grant isn't told again
unfoldable pub floor_in : ℕ → Members → Option ℕ
floor_in life members = floor_or life (get_member (codes "renew_floor") members)

abbrev pub IsFloorFault : Members → ServeSettingsError → Type 0
IsFloorFault m RenewFloor = (life : ℕ) × (floor_in life m ≡ None)
IsFloorFault m _ = ⊥

-- ---- how much clients may take

-- a whole number up to the limit
abbrev pub up_to : ℕ → ℤ → Option ℕ
up_to most (pos n) = if nat_le n most then Some n else None
up_to most (negsuc n) = None

unfoldable pub number_of : ℕ → Data → Option ℕ
number_of most value = as_integer value >>= up_to most

abbrev pub number_or : ℕ → ℕ → Option Data → Option ℕ
number_or unsaid most None = Some unsaid
number_or unsaid most (Some value) = number_of most value

-- the same at a key, or what is meant where the key isn't there
unfoldable pub quota_at : List ℕ → ℕ → ℕ → Members → Option ℕ
quota_at key unsaid most members = number_or unsaid most (get_member key members)

abbrev pub ias_per_message_in : Members → Option ℕ
ias_per_message_in members = quota_at (codes "ias_per_message") 4 65535 members

abbrev pub units_per_client_in : Members → Option ℕ
units_per_client_in members = quota_at (codes "units_per_client") 8 65536 members

abbrev pub units_per_port_in : Members → Option ℕ
units_per_port_in members = quota_at (codes "units_per_port") 64 65536 members

abbrev pub client_rate_in : Members → Option ℕ
client_rate_in members = quota_at (codes "client_rate") 20 1000000 members

abbrev pub rule_by : Bool → PortRule
rule_by true = Bound
rule_by false = Free

-- whether an identity association stays at its relay port: where nothing is said, it may come from any
unfoldable pub port_rule_in : Members → Option PortRule
port_rule_in members = option_map rule_by (bool_or false (get_member (codes "bind_to_port") members))

-- of a message, of a client, of those behind a port
unfoldable pub shares_in : Members → Option Shares
shares_in members = do
  ias ← ias_per_message_in members
  units ← units_per_client_in members
  behind ← units_per_port_in members
  Some (record { ias_per_message = ias; units_per_client = units; units_per_port = behind })

unfoldable pub quotas_in : Members → Option Quotas
quotas_in members = do
  shares ← shares_in members
  rate ← client_rate_in members
  rule ← port_rule_in members
  Some (record {
    ias_per_message = shares.ias_per_message;
    units_per_client = shares.units_per_client;
    units_per_port = shares.units_per_port;
    client_rate = rate;
    ports = rule;
  })

abbrev pub IsShareFault : Members → ServeSettingsError → Type 0
IsShareFault m IasPerMessage = ias_per_message_in m ≡ None
IsShareFault m UnitsPerClient = units_per_client_in m ≡ None
IsShareFault m UnitsPerPort = units_per_port_in m ≡ None
IsShareFault m _ = ⊥

abbrev pub IsQuotaFault : Members → ServeSettingsError → Type 0
IsQuotaFault m IasPerMessage = ias_per_message_in m ≡ None
IsQuotaFault m UnitsPerClient = units_per_client_in m ≡ None
IsQuotaFault m UnitsPerPort = units_per_port_in m ≡ None
IsQuotaFault m ClientRate = client_rate_in m ≡ None
IsQuotaFault m BindToPort = port_rule_in m ≡ None
IsQuotaFault m _ = ⊥

-- ---- the partner

-- whether the document says that the server is alone
unfoldable pub alone_in : Members → Option Bool
alone_in members = bool_or false (get_member (codes "alone") members)

abbrev pub link_in : Members → Option Data
link_in members = get_member (codes "link") members

-- it names a partner, or says that there is none
abbrev pub HasPartnerOrIsAlone : Members → Type 0
HasPartnerOrIsAlone members =
    ((alone_in members ≡ Some false) × IsSome (link_in members))
    ⊎ ((alone_in members ≡ Some true) × (link_in members ≡ None))

abbrev pub IsPartnerFault : Members → ServeSettingsError → Type 0
IsPartnerFault m Alone = alone_in m ≡ None
IsPartnerFault m NoPartner = (alone_in m ≡ Some false) × (link_in m ≡ None)
IsPartnerFault m PartnerOfAlone = (alone_in m ≡ Some true) × IsSome (link_in m)
IsPartnerFault m _ = ⊥

-- ---- the link's key

abbrev pub link_key_in : Members → Option Data
link_key_in members = get_member (codes "link_key") members

-- a value is a word that says what protects the link, or none is
abbrev pub IsWord : Data → List ℕ → Type 0
IsWord value word = (as_str value ≡ Some word) × (word ≢ [])

abbrev pub IsNoWord : Data → ServeSettingsError → Type 0
IsNoWord value LinkKey = (as_str value ≡ None) ⊎ (as_str value ≡ Some [])
IsNoWord value _ = ⊥

-- what a word says protects it: "none", or the name of a file
abbrev pub Says : List ℕ → LinkProtection → Type 0
Says word OtherLayer = word ≡ codes "none"
Says word (KeyFile file) = (word ≢ codes "none") × (string_bytes file ≡ word)

abbrev pub IsProtection : Members → LinkProtection → Type 0
IsProtection members protection = (value : Data) × (word : List ℕ)
    × (link_key_in members ≡ Some value) × IsWord value word × Says word protection

abbrev pub IsKeyFault : Members → ServeSettingsError → Type 0
IsKeyFault m NoLinkKey = link_key_in m ≡ None
IsKeyFault m LinkKey = (value : Data) × (link_key_in m ≡ Some value) × IsNoWord value LinkKey
IsKeyFault m (Node NoMemory) = ⊤
IsKeyFault m _ = ⊥

-- of a server that has a partner something protects the link
abbrev pub IsProtected : Members → Option LinkProtection → Type 0
IsProtected members None = alone_in members ≡ Some true
IsProtected members (Some protection) = (alone_in members ≡ Some false) × IsProtection members protection

abbrev pub has_none : Option LinkProtection → Bool
has_none None = true
has_none (Some protection) = false

-- ---- the document

-- a server runs by what a document says
pub record IsServed (members : Members) (server : ServerSettings) (upkeep : TimerSettings) (floor : ℕ) (quotas : Quotas)
    (protection : Option LinkProtection) : Type 0 where
  pub named : named_in members ≡ Some server
  pub limits : limits_in members ≡ Some upkeep
  pub floor_is : floor_in server.life members ≡ Some floor
  pub quotas_are : quotas_in members ≡ Some quotas
  pub partner : HasPartnerOrIsAlone members
  pub protected : IsProtected members protection

-- why it doesn't: of a text that no node runs by, that the pools overlap, or nothing; else a fault of the document
abbrev pub IsNodeRefusal : List ℕ → OpenError → Type 0
IsNodeRefusal text Overlap =
    (members : Members) × IsDocument text members
    × ((s : ServerSettings) × (named_in members ≡ Some s) × AreWithin s × (AreDisjoint s.pools → ⊥))
IsNodeRefusal text _ = ⊤

abbrev pub IsRefusal : List ℕ → ServeSettingsError → Type 0
IsRefusal text (Node e) = IsNodeRefusal text e
IsRefusal text Heartbeat = (members : Members) × IsDocument text members × IsLimitFault members Heartbeat
IsRefusal text VolumeLines = (members : Members) × IsDocument text members × IsLimitFault members VolumeLines
IsRefusal text VolumeHours = (members : Members) × IsDocument text members × IsLimitFault members VolumeHours
IsRefusal text RenewFloor = (members : Members) × IsDocument text members × IsFloorFault members RenewFloor
IsRefusal text IasPerMessage = (members : Members) × IsDocument text members × IsQuotaFault members IasPerMessage
IsRefusal text UnitsPerClient = (members : Members) × IsDocument text members × IsQuotaFault members UnitsPerClient
IsRefusal text UnitsPerPort = (members : Members) × IsDocument text members × IsQuotaFault members UnitsPerPort
IsRefusal text ClientRate = (members : Members) × IsDocument text members × IsQuotaFault members ClientRate
IsRefusal text BindToPort = (members : Members) × IsDocument text members × IsQuotaFault members BindToPort
IsRefusal text Alone = (members : Members) × IsDocument text members × IsPartnerFault members Alone
IsRefusal text NoPartner = (members : Members) × IsDocument text members × IsPartnerFault members NoPartner
IsRefusal text PartnerOfAlone = (members : Members) × IsDocument text members × IsPartnerFault members PartnerOfAlone
IsRefusal text NoLinkKey = (members : Members) × IsDocument text members × IsKeyFault members NoLinkKey
IsRefusal text LinkKey = (members : Members) × IsDocument text members × IsKeyFault members LinkKey
IsRefusal text (ReplyPolicy e) =
    (members : Members) × IsDocument text members × ((is_alone : Bool) × IsReplyPolicyFault is_alone members e)
