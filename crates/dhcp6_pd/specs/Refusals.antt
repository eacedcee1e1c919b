-- Why a message is refused: for its form, its type, its relays or its identifiers (RFC 8415, sections 7.3, 9 and 16).
use Rattle.std.specs.Prelude.{◌≡◌, ◌≢◌, ◌↔◌, ℕ, zero, suc, ◌<◌, ◌≤◌, List, [], ◌++◌, length, drop, slice_index, None}
use Rattle.std.specs.Prelude.{IsSome, IsSomeAnd, Result, Err}
use Rattle.std.specs.List.{AllByRecursion}
use Rattle.dhcp6_pd.specs.declared.error.PdFault.{PdFault}
use Rattle.dhcp6_pd.specs.declared.error.PdFault.TheVariants.{Short, OptionLength, DuplicateId, TooManyIas}
use Rattle.dhcp6_pd.specs.declared.error.PdFault.TheVariants.{BadPrefixLength}
use Rattle.dhcp6_pd.specs.declared.error.PdError.{PdError}
use Rattle.dhcp6_pd.specs.declared.error.PdError.TheVariants.{Fault, Memory}
use Rattle.dhcp6_pd.specs.declared.message.ClientKind.{ClientKind}
use Rattle.dhcp6_pd.specs.declared.message.ClientKind.TheVariants.{Solicit, Request, Renew, Rebind, Release}
use Rattle.dhcp6_pd.specs.declared.unvalidated.UnvalidatedMessage.{UnvalidatedMessage}
use Rattle.dhcp6_pd.specs.declared.numbers.TheConstants.{CLIENT_ID, SERVER_ID, RELAY_MESSAGE, INTERFACE_ID}
use Rattle.dhcp6_pd.specs.declared.numbers.TheConstants.{REMOTE_ID, RELAY_FORWARD}
use Rattle.dhcp6_pd.specs.Layout.{option_octets}
use Rattle.dhcp6_pd.specs.Options.{DhcpOption, IsOption, octets_of, data_of}
use Rattle.dhcp6_pd.specs.declared.message_class.MessageClass.{MessageClass}
use Rattle.dhcp6_pd.specs.declared.message_class.MessageClass.TheVariants.{Leases}
use Rattle.dhcp6_pd.specs.declared.message_class.MessageClass.TheVariants as reads
use Rattle.dhcp6_pd.specs.declared.message_class.MessageKind.{MessageKind}
use Rattle.dhcp6_pd.specs.declared.message_class.MessageKind.TheVariants.{Lease, Information}
use Rattle.dhcp6_pd.specs.Grammar.{lease_type, SpellsUnvalidated}

-- the answer is this fault exactly where that holds, unless a growth was refused
abbrev pub Refuses : {X : Type 0} → Result X PdError → PdFault → Type 0 → Type 0
Refuses r fault Why = r ≢ Err Memory → ((r ≡ Err (Fault fault)) ↔ Why)

-- ---- the form

-- what such a fault names is cut, does not fit, stands twice or too often
abbrev pub IsOfForm : PdFault → Type 0
IsOfForm Short = Unit {0}
IsOfForm OptionLength = Unit {0}
IsOfForm DuplicateId = Unit {0}
IsOfForm TooManyIas = Unit {0}
IsOfForm BadPrefixLength = Unit {0}
IsOfForm other = ⊥

-- messages of this type are read
abbrev pub IsRead : MessageClass → MessageKind → Type 0
IsRead Leases (Lease kind) = Unit {0}
IsRead Leases Information = ⊥
IsRead reads.Information (Lease kind) = ⊥
IsRead reads.Information Information = Unit {0}

-- the octets are no message about prefixes, whatever its identifiers would be
abbrev pub IsMalformed : List ℕ → Type 0
IsMalformed octets = (u : UnvalidatedMessage) → IsRead Leases u.kind → ¬ (SpellsUnvalidated octets u)

-- ---- the innermost message

abbrev pub relay_message : List ℕ → DhcpOption
relay_message inside = record { code = RELAY_MESSAGE; octets = inside }

-- The octets are a relay's message as far as to the message that it holds: its fixed part, and options of which
-- what may stand once stands once. What stands behind isn't asked.
pub record Carries (octets inside : List ℕ) : Type 0 where
  pub whole : 34 ≤ length octets
  pub kind : slice_index octets 0 ≡ RELAY_FORWARD
  pub before : List DhcpOption
  pub each : AllByRecursion IsOption before
  pub is : IsOption (relay_message inside)
  pub behind : List ℕ
  pub spelled : drop 34 octets ≡ octets_of before ++ (option_octets RELAY_MESSAGE inside ++ behind)
  pub first : data_of RELAY_MESSAGE before ≡ []
  pub client : length (data_of CLIENT_ID before) ≤ 1
  pub server : length (data_of SERVER_ID before) ≤ 1
  pub interface : length (data_of INTERFACE_ID before) ≤ 1
  pub remote : length (data_of REMOTE_ID before) ≤ 1

-- the message that so many relays carry
abbrev pub Carried : ℕ → List ℕ → List ℕ → Type 0
Carried zero octets inside = octets ≡ inside
Carried (suc relays) octets inside = (next : List ℕ) × Carries octets next × Carried relays next inside

-- so many relays carry the message of one more
pub record IsDeeper (relays : ℕ) (octets : List ℕ) : Type 0 where
  pub inside : List ℕ
  pub carried : Carried relays octets inside
  pub some : 0 < length inside
  pub kind : slice_index inside 0 ≡ RELAY_FORWARD

-- the innermost message, in at most so many relays, is of a type that isn't read
pub record IsOfOtherType (most : ℕ) (octets : List ℕ) : Type 0 where
  pub relays : ℕ
  pub few : relays ≤ most
  pub inside : List ℕ
  pub carried : Carried relays octets inside
  pub some : 0 < length inside
  pub relay : slice_index inside 0 ≢ RELAY_FORWARD
  pub other : (kind : ClientKind) → slice_index inside 0 ≢ lease_type kind

-- ---- the identifiers

-- the octets are a message about prefixes, whatever its identifiers are, of which this holds
abbrev pub SpellsOne : List ℕ → (UnvalidatedMessage → Type 0) → Type 0
SpellsOne octets P = (u : UnvalidatedMessage) × SpellsUnvalidated octets u × IsRead Leases u.kind × P u

-- types of messages to any server; all others are to one
abbrev pub IsToAny : MessageKind → Type 0
IsToAny (Lease Solicit) = Unit {0}
IsToAny (Lease Rebind) = Unit {0}
IsToAny (Lease Request) = ⊥
IsToAny (Lease Renew) = ⊥
IsToAny (Lease Release) = ⊥
IsToAny Information = ⊥

-- it has no client identifier
abbrev pub NamesNoClient : UnvalidatedMessage → Type 0
NamesNoClient u = u.client ≡ None

-- it is to any server and has a server identifier
abbrev pub NamesServerOfAny : UnvalidatedMessage → Type 0
NamesServerOfAny u = IsSome u.client × IsToAny u.kind × IsSome u.server

-- it is to one server and has no server identifier
abbrev pub NamesNoServer : UnvalidatedMessage → Type 0
NamesNoServer u = IsSome u.client × (¬ (IsToAny u.kind)) × (u.server ≡ None)

-- it is to one server, and its server identifier is not this server's
abbrev pub NamesAnother : List ℕ → UnvalidatedMessage → Type 0
NamesAnother own u = IsSome u.client × (¬ (IsToAny u.kind)) × IsSomeAnd u.server (λ server. server ≢ own)
