-- How many octets an answer has, and which sizes a datagram can have.
use Rattle.std.proofs.Common.{◌≡◌, ℕ, ◌+◌, ◌≤◌, List, [], ◌∷◌, ◌++◌, length, Ok, Err, sym, ap, ◌∙◌, arith}
use Rattle.std.proofs.Common.{length-append}
use Rattle.std.specs.Prelude.{sum_by, nat_lt, Bool, true, false, if◌then◌else◌}
use Rattle.std.proofs.lemmas.Bool.Decides.{nat_tests}
use Rattle.std.proofs.lemmas.List.Sums.{sum_by-cons}
use Rattle.dhcp6_pd.specs.declared.numbers.TheConstants.{RELAY_MESSAGE}
use Rattle.dhcp6_pd.specs.declared.error.PdError.{PdError}
use Rattle.dhcp6_pd.specs.declared.error.PdError.TheVariants.{TooLong}
use Rattle.dhcp6_pd.specs.declared.message.Relay.{Relay}
use Rattle.dhcp6_pd.specs.declared.message.ServerMessage.{ServerMessage}
use Rattle.std.specs.List.{flat_map}
use Rattle.dhcp6_pd.specs.Layout.{relay_head, relayed, option_octets, ia_octets, head_octets, server_octets}
use Rattle.dhcp6_pd.specs.Layout.{success_octets, ready_octets, no_address_octets, message_octets}
use Rattle.dhcp6_pd.specs.Size.{fitting, relay_size}

-- relays add their sizes to the message that they hold
pub relayed_length : (relays : List Relay) (message : List ℕ)
    → length (relayed relays message) ≡ sum_by relay_size relays + length message
unfolding relayed
relayed_length [] message = omega arith
relayed_length (r ∷ relays) message =
    let later = relayed_length relays message in
    let first : length (relay_head r ++ option_octets RELAY_MESSAGE (relayed relays message))
    ≡ relay_size r + length (relayed relays message) =
    length-append (relay_head r) (option_octets RELAY_MESSAGE (relayed relays message)) ∙ omega arith in
    first ∙ omega (arith, later, sum_by-cons relay_size r relays)

pub fitting_is : (n size : ℕ) → fitting n ≡ Ok size → n ≡ size
fitting_is n size e = by (nat_lt 65535 n) e
  where
    by : (t : Bool) → (if t then Err TooLong else Ok n) ≡ Ok size → n ≡ size
    by true e = cc
    by false e = cc

pub fitting_more : (n more : ℕ) (e : PdError) → n ≤ more → fitting n ≡ Err e → fitting more ≡ Err e
fitting_more n more e le h = grind (arith, nat_tests)

-- an answer's octets without its relays: its head's, and what stands behind that
pub server_length : (m : ServerMessage) → length (server_octets m)
    ≡ length (head_octets m) + length (success_octets m.success) + length (flat_map ready_octets m.options)
    + length (flat_map no_address_octets m.no_addresses) + length (flat_map ia_octets m.ias)
server_length m =
    let options = flat_map ready_octets m.options in
    let success = success_octets m.success in
    let addresses = flat_map no_address_octets m.no_addresses in
    let ias = flat_map ia_octets m.ias in
    omega (
      arith,
      length-append (head_octets m) (options ++ (success ++ (addresses ++ ias))),
      length-append options (success ++ (addresses ++ ias)),
      length-append success (addresses ++ ias),
      length-append addresses ias,
    )

-- the size that was found leaves room for the relays
pub relays_fit : (m : ServerMessage) (size : ℕ) → fitting (length (message_octets m)) ≡ Ok size
    → sum_by relay_size m.relays + length (server_octets m) ≡ size
relays_fit m size e = sym (relayed_length m.relays (server_octets m)) ∙ fitting_is (length (message_octets m)) size e
