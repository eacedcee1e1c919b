-- The octets of the server's messages (RFC 8415). Numbers stand highest octet first.
use Rattle.std.specs.Prelude.{Bool, ℕ, ◌*◌, ◌/◌, List, [], ◌∷◌, ◌++◌, length, Option, Some, None, if◌then◌else◌}
use Rattle.std.specs.List.{flat_map}
use Rattle.byteorder.specs.Endian.{big_bytes}
use Rattle.prefix_range.specs.Prefix.{Prefix}
use Rattle.router_options.specs.Ready.{Ready}
use Rattle.dhcp6_pd.specs.declared.message.Relay.{Relay}
use Rattle.dhcp6_pd.specs.declared.message.IaReply.{IaReply}
use Rattle.dhcp6_pd.specs.declared.message.IaReplyAnswer.{IaReplyAnswer}
use Rattle.dhcp6_pd.specs.declared.message.IaReplyAnswer.TheVariants.{Given, NoPrefix, NoBinding}
use Rattle.dhcp6_pd.specs.declared.message.ServerKind.{ServerKind}
use Rattle.dhcp6_pd.specs.declared.message.ServerKind.TheVariants.{Advertise, Reply}
use Rattle.dhcp6_pd.specs.declared.message.ServerMessage.{ServerMessage}
use Rattle.dhcp6_pd.specs.declared.numbers.TheConstants.{CLIENT_ID, SERVER_ID, IA_NA, RELAY_MESSAGE, STATUS_CODE}
use Rattle.dhcp6_pd.specs.declared.numbers.TheConstants.{INTERFACE_ID, IA_PD, IA_PREFIX, SUCCESS, NO_BINDING}
use Rattle.dhcp6_pd.specs.declared.numbers.TheConstants.{NO_PREFIX_AVAILABLE, NO_ADDRESSES, ADVERTISE, REPLY}
use Rattle.dhcp6_pd.specs.declared.numbers.TheConstants.{RELAY_REPLY}

-- section 21.1: an option's code and the length of its data, in two octets each, and the data
abbrev pub option_octets : ℕ → List ℕ → List ℕ
option_octets code octets = big_bytes 2 code ++ (big_bytes 2 (length octets) ++ octets)

-- section 21.13: a status code, with an empty text
abbrev pub status_octets : ℕ → List ℕ
status_octets code = option_octets STATUS_CODE (big_bytes 2 code)

-- section 21.22: the preferred and the valid lifetime, here equal, the prefix's length, its address
abbrev pub prefix_octets : Prefix → ℕ → List ℕ
prefix_octets p valid =
    option_octets IA_PREFIX (big_bytes 4 valid ++ (big_bytes 4 valid ++ (p.length ∷ big_bytes 16 p.address)))

-- T1 and T2: a half and four fifths of the valid lifetime, rounded down
abbrev pub times_octets : ℕ → List ℕ
times_octets valid = big_bytes 4 (valid / 2) ++ big_bytes 4 (4 * valid / 5)

-- T1, T2 and one option
abbrev pub answer_octets : IaReplyAnswer → List ℕ
answer_octets (Given prefix valid) = times_octets valid ++ prefix_octets prefix valid
answer_octets NoPrefix = times_octets 0 ++ status_octets NO_PREFIX_AVAILABLE
answer_octets NoBinding = times_octets 0 ++ status_octets NO_BINDING

-- section 21.21: the IAID, T1, T2, options
abbrev pub ia_octets : IaReply → List ℕ
ia_octets r = option_octets IA_PD (big_bytes 4 r.iaid ++ answer_octets r.answer)

-- section 7.3
abbrev pub kind_octet : ServerKind → ℕ
kind_octet Advertise = ADVERTISE
kind_octet Reply = REPLY

-- a status option Success, or none
abbrev pub success_octets : Bool → List ℕ
success_octets success = if success then status_octets SUCCESS else []

-- the client's identifier, where it gave one
abbrev pub client_octets : Option (List ℕ) → List ℕ
client_octets None = []
client_octets (Some client) = option_octets CLIENT_ID client

-- section 8: type, transaction identifier, and here the identifiers
abbrev pub head_octets : ServerMessage → List ℕ
head_octets m = kind_octet m.kind ∷ (m.xid ++ (client_octets m.client ++ option_octets SERVER_ID m.server))

-- an option that is handed out beside prefixes
abbrev pub ready_octets : Ready → List ℕ
ready_octets o = option_octets o.code o.octets

-- section 21.4: the IAID of an IA_NA, T1, T2, and the status that no address is available
abbrev pub no_address_octets : ℕ → List ℕ
no_address_octets iaid = option_octets IA_NA (big_bytes 4 iaid ++ (times_octets 0 ++ status_octets NO_ADDRESSES))

-- behind the identifiers: what is handed out beside prefixes, the status, IA_NAs and IA_PDs
abbrev pub body_octets : ServerMessage → List ℕ
body_octets m = flat_map ready_octets m.options
    ++ (success_octets m.success ++ (flat_map no_address_octets m.no_addresses ++ flat_map ia_octets m.ias))

abbrev pub server_octets : ServerMessage → List ℕ
server_octets m = head_octets m ++ body_octets m

-- section 21.18: the interface identifier goes back as it came; the remote one need not (RFC 4649), and does not
abbrev pub interface_octets : Option (List ℕ) → List ℕ
interface_octets None = []
interface_octets (Some interface) = option_octets INTERFACE_ID interface

-- section 9.2: type RELAY-REPL, hop count, link and peer address
abbrev pub relay_head : Relay → List ℕ
relay_head r = RELAY_REPLY ∷ r.hops ∷ (r.link ++ (r.peer ++ interface_octets r.interface))

-- a message within the relay message options of its relays, the first of them outermost (section 21.10)
unfoldable pub relayed : List Relay → List ℕ → List ℕ
relayed [] message = message
relayed (r ∷ relays) message = relay_head r ++ option_octets RELAY_MESSAGE (relayed relays message)

-- the whole datagram
abbrev pub message_octets : ServerMessage → List ℕ
message_octets m = relayed m.relays (server_octets m)
