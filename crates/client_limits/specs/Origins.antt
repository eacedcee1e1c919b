-- Where a message came from.
use Rattle.std.specs.Prelude.{ℕ, List, [], ◌∷◌, ◌++◌, ◌-◌, length, slice_get, Option, Some, None, option_map, is_some}
use Rattle.std.specs.Prelude.{Bool, ◌||◌, if◌then◌else◌}
use Rattle.std.specs.Int.{w128, from_be_bytes}
use Rattle.dhcp6_pd.specs.declared.message.Relay.{Relay}
use Rattle.std.specs.declared.alloc.Global.{Global}
use Rattle.std.specs.declared.vec.Vec.{Vec}
use Rattle.access_records.specs.declared.port.RelayPort.{RelayPort}
use Rattle.client_limits.specs.declared.limiter.RelayOrigin.{RelayOrigin}
use Rattle.access_records.specs.Spelling.{record_text}

-- the port that a relay forwarded a message from (RFC 8415, sections 9 and 21.18; RFC 4649)
abbrev pub port_by : Relay → RelayPort
port_by r = record { link = from_be_bytes w128 r.link; interface = r.interface; remote = r.remote }

-- that of the relay nearest to the client, which is the last
abbrev pub port_of : List Relay → Option RelayPort
port_of relays = option_map port_by (slice_get relays (length relays - 1))

-- the octets that name a port: the line of a record of it
abbrev pub name_of : RelayPort → List ℕ
name_of port = record_text (record { number = 1; port = Some port; source = None }) ++ 10 ∷ []

-- the relay tells its clients apart
abbrev pub tells_apart : RelayPort → Bool
tells_apart port = is_some port.interface || is_some port.remote

-- where it doesn't, nothing names the port
abbrev pub name_by : Option RelayPort → Option (List ℕ)
name_by None = None
name_by (Some port) = if tells_apart port then Some (name_of port) else None

-- For bodies only: what names the port of an origin.
abbrev pub named : Option RelayOrigin → Option (List ℕ)
named None = None
named (Some origin) = option_map (λ (name : Vec ℕ Global). name.items) origin.name
