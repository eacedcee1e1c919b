-- Which octets are which client's message (RFC 8415).
use Rattle.std.specs.Prelude.{◌≡◌, ℕ, ◌^◌, ◌<◌, ◌≤◌, nat_lt, if◌then◌else◌}
use Rattle.std.specs.Prelude.{List, [], ◌∷◌, length, take, drop, slice_index, Option, Some, None}
use Rattle.std.specs.List.{AllByRecursion, flat_map}
use Rattle.byteorder.specs.Endian.{big_number, big_bytes}
use Rattle.prefix_range.specs.Prefix.{Prefix}
use Rattle.client_id.specs.Duid.{IsDuid}
use Rattle.dhcp6_pd.specs.declared.message.ClientKind.{ClientKind}
use Rattle.dhcp6_pd.specs.declared.message.ClientKind.TheVariants.{Solicit, Request, Renew, Rebind, Release}
use Rattle.dhcp6_pd.specs.declared.message.ClientMessage.{ClientMessage}
use Rattle.dhcp6_pd.specs.declared.message.InformationRequest.{InformationRequest}
use Rattle.dhcp6_pd.specs.declared.message_class.MessageKind.{MessageKind}
use Rattle.dhcp6_pd.specs.declared.message_class.MessageKind.TheVariants.{Lease, Information}
use Rattle.dhcp6_pd.specs.declared.unvalidated.UnvalidatedMessage.{UnvalidatedMessage}
use Rattle.dhcp6_pd.specs.declared.numbers.TheConstants.{CLIENT_ID, SERVER_ID, RELAY_MESSAGE, INTERFACE_ID, IA_PD}
use Rattle.dhcp6_pd.specs.declared.numbers.TheConstants.{IA_PREFIX, SOLICIT, REQUEST, RENEW, REBIND, RELEASE}
use Rattle.dhcp6_pd.specs.declared.numbers.TheConstants.{REMOTE_ID, RELAY_FORWARD, MAX_IAS, MAX_RELAYS, IA_NA}
use Rattle.dhcp6_pd.specs.declared.numbers.TheConstants.{IA_TA, OPTION_REQUEST, INFORMATION_REQUEST}
use Rattle.dhcp6_pd.specs.declared.message.IaPd.{IaPd}
use Rattle.dhcp6_pd.specs.declared.message.IaPart.TheVariants.{First}
use Rattle.dhcp6_pd.specs.declared.message.Relay.{Relay}
use Rattle.dhcp6_pd.specs.Options.{DhcpOption, AreOptions, data_of}
use Rattle.dhcp6_pd.specs.Associations.{cleared, address_of, prefixes_in}

-- ---- IA_PD (sections 21.21 and 21.22)

-- the data of an IAPREFIX option: eight octets of lifetimes, the prefix's length, its address, options
pub record SpellsPrefix (octets : List ℕ) (p : Prefix) : Type 0 where
  pub whole : 25 ≤ length octets
  pub size : p.length ≡ slice_index octets 8
  pub short : p.length ≤ 128
  pub address : p.address ≡ cleared p.length (address_of octets)

-- the hint is the first IAPREFIX, whatever follows it
abbrev pub SpellsHint : List (List ℕ) → Option Prefix → Type 0
SpellsHint [] hint = hint ≡ None
SpellsHint (first ∷ later) hint = (p : Prefix) × SpellsPrefix first p × (hint ≡ Some p)

-- the data of an IA_PD option: four octets of IAID, eight of T1 and T2, options
pub record SpellsIa (octets : List ℕ) (ia : IaPd) : Type 0 where
  pub whole : 12 ≤ length octets
  pub iaid : ia.iaid ≡ big_number 4 octets
  pub part : ia.part ≡ First
  pub options : List DhcpOption
  pub spelled : AreOptions (drop 12 octets) options
  pub hint : SpellsHint (data_of IA_PREFIX options) ia.hint

abbrev pub SpellIas : List (List ℕ) → List IaPd → Type 0
SpellIas [] [] = Unit {0}
SpellIas [] (ia ∷ ias) = ⊥
SpellIas (octets ∷ more) [] = ⊥
SpellIas (octets ∷ more) (ia ∷ ias) = SpellsIa octets ia × SpellIas more ias

-- ---- a client's message (section 8)

-- section 7.3
abbrev pub lease_type : ClientKind → ℕ
lease_type Solicit = SOLICIT
lease_type Request = REQUEST
lease_type Renew = RENEW
lease_type Rebind = REBIND
lease_type Release = RELEASE

abbrev pub type_of : MessageKind → ℕ
type_of (Lease kind) = lease_type kind
type_of Information = INFORMATION_REQUEST

-- an option that stands once or not at all
abbrev pub listed : Option (List ℕ) → List (List ℕ)
listed None = []
listed (Some octets) = octets ∷ []

-- ---- what it asks for beside prefixes (sections 21.4, 21.5 and 21.7)

-- the data of an option request: codes of two octets each
pub record AreCodes (octets codes : List ℕ) : Type 0 where
  pub each : AllByRecursion (λ code. code < 2 ^ 16) codes
  pub spelled : octets ≡ flat_map (big_bytes 2) codes

-- it stands once or not at all, which asks for nothing
abbrev pub SpellsRequest : List (List ℕ) → List ℕ → Type 0
SpellsRequest [] codes = codes ≡ []
SpellsRequest (octets ∷ []) codes = AreCodes octets codes
SpellsRequest (octets ∷ more ∷ later) codes = ⊥

-- the identifiers of identity associations, each before other octets of its fixed part, which has so many; a shorter
-- one is none
abbrev pub iaids_in : ℕ → List (List ℕ) → List ℕ
iaids_in least [] = []
iaids_in least (octets ∷ all) =
    if nat_lt (length octets) least then iaids_in least all else big_number 4 octets ∷ iaids_in least all

-- ---- a client's message

-- The type, three octets of transaction identifier, options. What may stand once stands once, IA_PDs at most 16 times.
-- Whom the identifiers name isn't asked.
pub record SpellsClient (octets : List ℕ) (u : UnvalidatedMessage) : Type 0 where
  pub whole : 4 ≤ length octets
  pub kind : slice_index octets 0 ≡ type_of u.kind
  pub xid : u.xid ≡ take 3 (drop 1 octets)
  pub options : List DhcpOption
  pub spelled : AreOptions (drop 4 octets) options
  pub client : data_of CLIENT_ID options ≡ listed u.client
  pub client_duid : AllByRecursion IsDuid (listed u.client)
  pub server : data_of SERVER_ID options ≡ listed u.server
  pub server_duid : AllByRecursion IsDuid (listed u.server)
  pub relayed : length (data_of RELAY_MESSAGE options) ≤ 1
  pub interface : length (data_of INTERFACE_ID options) ≤ 1
  pub ias : SpellIas (data_of IA_PD options) u.ias
  pub few : length u.ias ≤ MAX_IAS
  pub prefixes : u.prefixes ≡ flat_map prefixes_in (data_of IA_PD options)
  pub requested : SpellsRequest (data_of OPTION_REQUEST options) u.requested
  pub addresses : u.addresses ≡ iaids_in 12 (data_of IA_NA options)
  pub temporaries : u.temporaries ≡ iaids_in 4 (data_of IA_TA options)

-- ---- a relay's message (section 9)

-- type RELAY-FORW, hop count, link and peer address, options, of which one is the message that it holds
pub record SpellsRelay (octets : List ℕ) (r : Relay) (inside : List ℕ) : Type 0 where
  pub whole : 34 ≤ length octets
  pub kind : slice_index octets 0 ≡ RELAY_FORWARD
  pub hops : r.hops ≡ slice_index octets 1
  pub link : r.link ≡ take 16 (drop 2 octets)
  pub peer : r.peer ≡ take 16 (drop 18 octets)
  pub options : List DhcpOption
  pub spelled : AreOptions (drop 34 octets) options
  pub held : data_of RELAY_MESSAGE options ≡ inside ∷ []
  pub interface : data_of INTERFACE_ID options ≡ listed r.interface
  pub remote : data_of REMOTE_ID options ≡ listed r.remote
  pub client : length (data_of CLIENT_ID options) ≤ 1
  pub server : length (data_of SERVER_ID options) ≤ 1

-- ---- the whole datagram

-- the message, in as many relays' messages, the first of them outermost
abbrev pub SpellsFrom : List ℕ → List Relay → UnvalidatedMessage → Type 0
SpellsFrom octets [] u = SpellsClient octets u
SpellsFrom octets (r ∷ relays) u = (inside : List ℕ) × SpellsRelay octets r inside × SpellsFrom inside relays u

-- the octets are this message, whatever its identifiers are
pub record SpellsUnvalidated (octets : List ℕ) (u : UnvalidatedMessage) : Type 0 where
  pub spelled : SpellsFrom octets u.relays u
  pub few : length u.relays ≤ MAX_RELAYS

-- ---- the identifiers (sections 16.2 to 16.9, of the types that are read)

-- the server that a message of this type names, where it is for the server `own`: none, where it is for any
abbrev pub server_for : List ℕ → ClientKind → Option (List ℕ)
server_for own Solicit = None
server_for own Rebind = None
server_for own Request = Some own
server_for own Renew = Some own
server_for own Release = Some own

-- a message with the identifiers that it has to have
abbrev pub addressed : List ℕ → ClientMessage → UnvalidatedMessage
addressed own m = record {
  relays = m.relays;
  kind = Lease m.kind;
  xid = m.xid;
  client = Some m.client;
  server = server_for own m.kind;
  ias = m.ias;
  prefixes = m.prefixes;
  requested = m.requested;
  addresses = m.addresses;
  temporaries = m.temporaries;
}

-- the octets are this message for the server with this identifier
abbrev pub Spells : List ℕ → List ℕ → ClientMessage → Type 0
Spells own octets m = SpellsUnvalidated octets (addressed own m)

-- ---- requests for options alone (section 16.12)

-- a request with this server identifier, or none, and without identity associations
abbrev pub inquiry : Option (List ℕ) → InformationRequest → UnvalidatedMessage
inquiry server i = record {
  relays = i.relays;
  kind = Information;
  xid = i.xid;
  client = i.client;
  server = server;
  ias = [];
  prefixes = [];
  requested = i.requested;
  addresses = [];
  temporaries = [];
}

-- it names this server, or none
abbrev pub NamesOnly : List ℕ → Option (List ℕ) → Type 0
NamesOnly own None = Unit {0}
NamesOnly own (Some server) = server ≡ own

-- the octets are this request to the server with this identifier, or to any
abbrev pub SpellsInformation : List ℕ → List ℕ → InformationRequest → Type 0
SpellsInformation own octets i =
    (server : Option (List ℕ)) × NamesOnly own server × SpellsUnvalidated octets (inquiry server i)
