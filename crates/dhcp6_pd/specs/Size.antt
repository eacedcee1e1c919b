-- How many octets an answer has: for bodies only.
use Rattle.std.specs.Prelude.{ℕ, ◌+◌, List, ◌++◌, length, Result, Ok, Err, nat_lt, if◌then◌else◌}
use Rattle.byteorder.specs.Endian.{big_bytes}
use Rattle.dhcp6_pd.specs.declared.error.PdError.{PdError}
use Rattle.dhcp6_pd.specs.declared.error.PdError.TheVariants.{TooLong}
use Rattle.dhcp6_pd.specs.declared.message.Relay.{Relay}
use Rattle.dhcp6_pd.specs.declared.numbers.TheConstants.{RELAY_MESSAGE, MAX_OCTETS}
use Rattle.dhcp6_pd.specs.Layout.{relay_head}

-- a size that a datagram can have
abbrev pub fitting : ℕ → Result ℕ PdError
fitting n = if nat_lt MAX_OCTETS n then Err TooLong else Ok n

-- what a relay puts before the message that it holds, of so many octets
abbrev pub relay_front : Relay → ℕ → List ℕ
relay_front r n = relay_head r ++ (big_bytes 2 RELAY_MESSAGE ++ big_bytes 2 n)

-- what a relay adds to the message that it holds
abbrev pub relay_size : Relay → ℕ
relay_size r = length (relay_head r) + 4
