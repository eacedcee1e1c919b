-- What any octets are as a client's message, or their first fault from the front.
use Rattle.std.specs.Prelude.{ℕ, zero, suc, ◌==◌, ◌&&◌, option_map, Bool, true, false, List, [], ◌∷◌, ◌++◌, length}
use Rattle.std.specs.Prelude.{take, drop}
use Rattle.std.specs.Prelude.{slice_index, Option, Some, None, Result, Ok, Err, nat_lt, if◌then◌else◌}
use Rattle.std.specs.Str.{bytes_eq}
use Rattle.client_id.specs.Duid.{duid_in}
use Rattle.client_id.specs.declared.error.ClientIdError.{ClientIdError}
use Rattle.text_fields.specs.Parsing.{◌>>!◌}
use Rattle.dhcp6_pd.specs.declared.error.PdFault.{PdFault}
use Rattle.dhcp6_pd.specs.declared.error.PdFault.TheVariants.{Short, OptionLength, DuplicateId, NoClientId}
use Rattle.dhcp6_pd.specs.declared.error.PdFault.TheVariants.{ServerIdPresent, ServerIdMissing, NotOurs, TooDeep}
use Rattle.dhcp6_pd.specs.declared.error.PdFault.TheVariants.{TooManyIas, Ignored}
use Rattle.dhcp6_pd.specs.declared.option_code.OptionCode.{OptionCode}
use Rattle.dhcp6_pd.specs.declared.option_code.OptionCode.TheVariants as codes
use Rattle.dhcp6_pd.specs.declared.message.ClientKind.{ClientKind}
use Rattle.dhcp6_pd.specs.declared.message.ClientKind.TheVariants.{Solicit, Request, Renew, Rebind, Release}
use Rattle.dhcp6_pd.specs.declared.message.ClientMessage.{ClientMessage}
use Rattle.dhcp6_pd.specs.declared.message.InformationRequest.{InformationRequest}
use Rattle.dhcp6_pd.specs.declared.message_class.MessageClass.{MessageClass}
use Rattle.dhcp6_pd.specs.declared.message_class.MessageClass.TheVariants.{Leases}
use Rattle.dhcp6_pd.specs.declared.message_class.MessageClass.TheVariants as reads
use Rattle.dhcp6_pd.specs.declared.message_class.MessageKind.{MessageKind}
use Rattle.dhcp6_pd.specs.declared.message_class.MessageKind.TheVariants.{Lease, Information}
use Rattle.dhcp6_pd.specs.declared.requested_items.RequestedItems.{RequestedItems}
use Rattle.dhcp6_pd.specs.declared.message.IaPd.{IaPd}
use Rattle.dhcp6_pd.specs.declared.message.Relay.{Relay}
use Rattle.dhcp6_pd.specs.declared.client_options.ClientOptions.{ClientOptions}
use Rattle.dhcp6_pd.specs.declared.relay_options.RelayOptions.{RelayOptions}
use Rattle.dhcp6_pd.specs.declared.unvalidated.UnvalidatedMessage.{UnvalidatedMessage}
use Rattle.dhcp6_pd.specs.declared.numbers.TheConstants.{RELAY_MESSAGE, SOLICIT, REQUEST, RENEW, REBIND}
use Rattle.dhcp6_pd.specs.declared.numbers.TheConstants.{RELEASE, INFORMATION_REQUEST, RELAY_FORWARD, MAX_IAS}
use Rattle.dhcp6_pd.specs.declared.numbers.TheConstants.{MAX_RELAYS}
use Rattle.dhcp6_pd.specs.Options.{DhcpOption}
use Rattle.dhcp6_pd.specs.Rows.{Row, Done, Broken, Next, row_of, code_of, folded}
use Rattle.dhcp6_pd.specs.Associations.{ia_in}
use Rattle.dhcp6_pd.specs.RequestedItems.{wishes_in, or_none}

-- ---- the options of a client's message

abbrev pub duid_or : Result (List ℕ) ClientIdError → Result (Option (List ℕ)) PdFault
duid_or (Ok duid) = Ok (Some duid)
duid_or (Err e) = Err OptionLength

-- an identifier that may stand once, of 3 to 130 octets (section 11.1)
unfoldable pub once : Option (List ℕ) → List ℕ → Result (Option (List ℕ)) PdFault
once None octets = duid_or (duid_in octets)
once (Some duid) octets = Err DuplicateId

-- an option that may stand once and whose data is not read
unfoldable pub seen_once : Bool → Result Bool PdFault
seen_once true = Err DuplicateId
seen_once false = Ok true

-- one IA_PD more, of at most 16
unfoldable pub with_ia : List IaPd → List ℕ → Result (List IaPd) PdFault
with_ia ias octets =
    if nat_lt (length ias) MAX_IAS then (ia_in octets >>! λ ia. Ok (ias ++ ia ∷ []))
    else Err TooManyIas

abbrev pub client_code : OptionCode → ClientOptions → List ℕ → Result ClientOptions PdFault
client_code codes.ClientId s octets = once s.client octets >>! λ client. Ok (record s { client = client })
client_code codes.ServerId s octets = once s.server octets >>! λ server. Ok (record s { server = server })
client_code codes.RelayMessage s octets = seen_once s.relayed >>! λ relayed. Ok (record s { relayed = relayed })
client_code codes.InterfaceId s octets = seen_once s.interface >>! λ interface. Ok (record s { interface = interface })
client_code codes.RemoteId s octets = Ok s
client_code codes.IaPd s octets = with_ia s.ias octets >>! λ ias. Ok (record s { ias = ias })
client_code codes.IaPrefix s octets = Ok s
client_code codes.Other s octets = Ok s

unfoldable pub client_option : ClientOptions → DhcpOption → Result ClientOptions PdFault
client_option s o = client_code (code_of o.code) s o.octets

abbrev pub no_client_options : ClientOptions
no_client_options = record { client = None; server = None; relayed = false; interface = false; ias = [] }

abbrev pub client_options_in : List ℕ → Result ClientOptions PdFault
client_options_in octets = folded client_option no_client_options (row_of octets)

-- ---- the messages (sections 8 and 9)

-- section 7.3
unfoldable pub lease_kind : ℕ → Option ClientKind
lease_kind octet =
    if octet == SOLICIT then Some Solicit
    else if octet == REQUEST then Some Request
    else if octet == RENEW then Some Renew
    else if octet == REBIND then Some Rebind
    else if octet == RELEASE then Some Release
    else None

-- a message's type, where such messages are read
unfoldable pub kind_of : MessageClass → ℕ → Option MessageKind
kind_of Leases octet = option_map (λ kind. Lease kind) (lease_kind octet)
kind_of reads.Information octet = if octet == INFORMATION_REQUEST then Some Information else None

-- a message's type, transaction identifier, and what its options say
abbrev pub client_message : MessageKind → List ℕ → ClientOptions → RequestedItems → UnvalidatedMessage
client_message kind octets kept wishes =
    record {
      relays = [];
      kind = kind;
      xid = take 3 (drop 1 octets);
      client = kept.client;
      server = kept.server;
      ias = kept.ias;
      prefixes = wishes.prefixes;
      requested = or_none wishes.requested;
      addresses = wishes.addresses;
      temporaries = wishes.temporaries;
    }

-- Type, transaction identifier of three octets, options. Faults of what is asked for beside prefixes come last.
unfoldable pub client_in : MessageKind → List ℕ → Result UnvalidatedMessage PdFault
client_in kind octets =
    if nat_lt (length octets) 4 then Err Short
    else (client_options_in (drop 4 octets) >>! λ kept. wishes_in (drop 4 octets) >>! λ wishes.
    Ok (client_message kind octets kept wishes))

-- ---- the options of a relay's message

-- an identifier that the relay gives, which may stand once
abbrev pub relay_id_once : Option (List ℕ) → List ℕ → Result (Option (List ℕ)) PdFault
relay_id_once None octets = Ok (Some octets)
relay_id_once (Some id) octets = Err DuplicateId

abbrev pub relay_code : OptionCode → RelayOptions → List ℕ → Result RelayOptions PdFault
relay_code codes.ClientId l octets = seen_once l.client >>! λ client. Ok (record l { client = client })
relay_code codes.ServerId l octets = seen_once l.server >>! λ server. Ok (record l { server = server })
relay_code codes.RelayMessage l octets = seen_once l.relayed >>! λ relayed. Ok (record l { relayed = relayed })
relay_code codes.InterfaceId l octets =
    relay_id_once l.interface octets >>! λ interface. Ok (record l { interface = interface })
relay_code codes.RemoteId l octets = relay_id_once l.remote octets >>! λ remote. Ok (record l { remote = remote })
relay_code codes.IaPd l octets = Ok l
relay_code codes.IaPrefix l octets = Ok l
relay_code codes.Other l octets = Ok l

unfoldable pub relay_option : RelayOptions → DhcpOption → Result RelayOptions PdFault
relay_option l o = relay_code (code_of o.code) l o.octets

abbrev pub no_relay_options : RelayOptions
no_relay_options = record { client = false; server = false; relayed = false; interface = None; remote = None }

-- the options up to the relay message, and its data with the row behind it; or all options where none is left
unfoldable pub to_message : RelayOptions → Row → Result (RelayOptions × Option (List ℕ × Row)) PdFault
to_message l Done = Ok (l, None)
to_message l (Broken fault) = Err fault
to_message l (Next o row) =
    relay_option l o >>! λ more.
    if o.code == RELAY_MESSAGE then Ok (more, Some (o.octets, row)) else to_message more row

abbrev pub or_short : {A : Type 0} → Option A → Result A PdFault
or_short None = Err Short
or_short (Some x) = Ok x

-- section 9: hop count, link address, peer address
unfoldable pub relay_of : List ℕ → RelayOptions → Relay
relay_of octets kept = record {
  hops = slice_index octets 1;
  link = take 16 (drop 2 octets);
  peer = take 16 (drop 18 octets);
  interface = kept.interface;
  remote = kept.remote;
}

abbrev pub by_relay : Relay → UnvalidatedMessage → UnvalidatedMessage
by_relay r u = record u { relays = r ∷ u.relays }

-- a relay's message behind its fixed part, of which the options up to the message were parsed
abbrev pub behind : (List ℕ → Result UnvalidatedMessage PdFault) → List ℕ
    → Result (RelayOptions × Option (List ℕ × Row)) PdFault → Result UnvalidatedMessage PdFault
behind parse octets found =
    found >>! λ up.
    or_short up.1 >>! λ held.
    parse held.0 >>! λ u.
    folded relay_option up.0 held.1 >>! λ kept.
    Ok (by_relay (relay_of octets kept) u)

-- A relay's message that holds a message, which is parsed where it stands: what is wrong with it comes before the
-- faults of the options behind it.
unfoldable pub relay_in : (List ℕ → Result UnvalidatedMessage PdFault) → List ℕ → Result UnvalidatedMessage PdFault
relay_in parse octets =
    if nat_lt (length octets) 34 then Err Short
    else behind parse octets (to_message no_relay_options (row_of (drop 34 octets)))

abbrev pub or_ignored : Option MessageKind → List ℕ → Result UnvalidatedMessage PdFault
or_ignored None octets = Err Ignored
or_ignored (Some kind) octets = client_in kind octets

-- a message by its type, which its first octet is: a relay's is RELAY-FORW
abbrev pub by_type : MessageClass → (List ℕ → Result UnvalidatedMessage PdFault) → List ℕ → Result UnvalidatedMessage PdFault
by_type which relay [] = Err Short
by_type which relay (x ∷ octets) =
    if x == RELAY_FORWARD then relay (x ∷ octets) else or_ignored (kind_of which x) (x ∷ octets)

-- a message that at most so many relays hold
unfoldable pub message_in : MessageClass → ℕ → List ℕ → Result UnvalidatedMessage PdFault
message_in which zero octets = by_type which (λ _. Err TooDeep) octets
message_in which (suc left) octets = by_type which (relay_in (message_in which left)) octets

-- ---- the identifiers (section 16)

-- the server identifier, where the type asks for one, is this server's
unfoldable pub for_server : List ℕ → ClientKind → Option (List ℕ) → Result (Unit {0}) PdFault
for_server own Solicit None = Ok tt
for_server own Solicit (Some server) = Err ServerIdPresent
for_server own Rebind None = Ok tt
for_server own Rebind (Some server) = Err ServerIdPresent
for_server own kind None = Err ServerIdMissing
for_server own kind (Some server) = if bytes_eq server own then Ok tt else Err NotOurs

abbrev pub or_no_client : Option (List ℕ) → Result (List ℕ) PdFault
or_no_client None = Err NoClientId
or_no_client (Some client) = Ok client

-- the type of a message about prefixes
abbrev pub lease_or_ignored : MessageKind → Result ClientKind PdFault
lease_or_ignored (Lease kind) = Ok kind
lease_or_ignored Information = Err Ignored

unfoldable pub identified : List ℕ → UnvalidatedMessage → Result ClientMessage PdFault
identified own u =
    lease_or_ignored u.kind >>! λ kind.
    or_no_client u.client >>! λ client.
    for_server own kind u.server >>! λ _.
    Ok (record {
      relays = u.relays;
      kind = kind;
      xid = u.xid;
      client = client;
      ias = u.ias;
      prefixes = u.prefixes;
      requested = u.requested;
      addresses = u.addresses;
      temporaries = u.temporaries;
    })

-- what octets are as a message for the server with this identifier: at most 32 relays, and identifiers last
abbrev pub message_of : List ℕ → List ℕ → Result ClientMessage PdFault
message_of own octets = message_in Leases MAX_RELAYS octets >>! identified own

-- ---- requests for options alone (section 16.12)

-- the server identifier, where one stands, is this server's
unfoldable pub for_any : List ℕ → Option (List ℕ) → Result (Unit {0}) PdFault
for_any own None = Ok tt
for_any own (Some server) = if bytes_eq server own then Ok tt else Err NotOurs

abbrev pub is_none : {A : Type 0} → List A → Bool
is_none [] = true
is_none (x ∷ xs) = false

-- no identity association stands there
abbrev pub has_no_ia : UnvalidatedMessage → Bool
has_no_ia u = is_none u.ias && (is_none u.prefixes && (is_none u.addresses && is_none u.temporaries))

unfoldable pub inquired : List ℕ → UnvalidatedMessage → Result InformationRequest PdFault
inquired own u =
    for_any own u.server >>! λ _.
    if has_no_ia u
    then Ok (record { relays = u.relays; xid = u.xid; client = u.client; requested = u.requested })
    else Err Ignored

-- what octets are as a request for options alone
abbrev pub information_of : List ℕ → List ℕ → Result InformationRequest PdFault
information_of own octets = message_in reads.Information MAX_RELAYS octets >>! inquired own
