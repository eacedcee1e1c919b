-- What the loop over the relays keeps.
use Rattle.std.proofs.Common.{◌≡◌, ℕ, suc, ◌+◌, ◌-◌, ◌<◌, add-one, drop, drop-cons, get_or, List, [], ◌∷◌, ◌++◌, length}
use Rattle.std.proofs.Common.{refl, sym, ap, ◌∙◌, arith, length-append, append_assoc}
use Rattle.std.specs.Prelude.{sum_by}
use Rattle.byteorder.specs.Endian.{big_bytes}
use Rattle.std.proofs.lemmas.List.Sums.{sum_by-cons}
use Rattle.dhcp6_pd.specs.declared.numbers.TheConstants.{RELAY_MESSAGE}
use Rattle.dhcp6_pd.specs.declared.message.Relay.{Relay}
use Rattle.dhcp6_pd.specs.Layout.{relay_head, relayed, option_octets}
use Rattle.dhcp6_pd.specs.Size.{relay_size, relay_front}
use Rattle.dhcp6_pd.proofs.Sizes.{relayed_length}

-- the octets so far, and the relays that are left, make the whole datagram of `size` octets
pub record IsOnTheWay (before : List ℕ) (relays : List Relay) (size : ℕ) (out : List ℕ) (left : List Relay) :
    Type 0 where
  pub room : length out + sum_by relay_size left ≡ length before + sum_by relay_size relays
  pub so_far : (message : List ℕ) → length before + (sum_by relay_size relays + length message) ≡ size
      → out ++ relayed left message ≡ before ++ relayed relays message

pub begins : (before : List ℕ) (relays : List Relay) (size : ℕ) → IsOnTheWay before relays size before relays
begins before relays size = record { room = refl; so_far = λ message e. refl }

front_length : (r : Relay) (n : ℕ) → length (relay_front r n) ≡ relay_size r
front_length r n = length-append (relay_head r) (big_bytes 2 RELAY_MESSAGE ++ big_bytes 2 n)

within : (out : List ℕ) (r : Relay) (held : List ℕ) (n : ℕ) → n ≡ length held
    → (out ++ relay_front r n) ++ held ≡ out ++ (relay_head r ++ option_octets RELAY_MESSAGE held)
within out r held n e =
    append_assoc out (relay_front r n) held
    ∙ ap (λ (xs : List ℕ). out ++ xs) (append_assoc (relay_head r) (big_bytes 2 RELAY_MESSAGE ++ big_bytes 2 n) held
    ∙ ap (λ (k : ℕ). relay_head r ++ (big_bytes 2 RELAY_MESSAGE ++ (big_bytes 2 k ++ held))) e)

pub goes_on : (before : List ℕ) (relays : List Relay) (size : ℕ) (out more : List ℕ) (r : Relay) (left : List Relay)
    → IsOnTheWay before relays size out (r ∷ left)
    → more ≡ out ++ relay_front r (size - (length out + relay_size r)) → IsOnTheWay before relays size more left
unfolding relayed
goes_on before relays size out more r left h e =
    let n = size - (length out + relay_size r) in
    let longer : length more ≡ length out + relay_size r = ap length e
    ∙ (length-append out (relay_front r n) ∙ ap (λ (k : ℕ). length out + k) (front_length r n)) in
    let split = sum_by-cons relay_size r left in
    let room = h.room in
    record {
      room = omega (arith, longer, split, room);
      so_far = λ message whole.
          (let held : n ≡ length (relayed left message) =
          omega (arith, split, room, whole, relayed_length left message) in
          ap (λ (xs : List ℕ). xs ++ relayed left message) e
          ∙ (within out r (relayed left message) n held ∙ h.so_far message whole));
    }

pub ends : (before : List ℕ) (relays : List Relay) (size : ℕ) (out : List ℕ) → IsOnTheWay before relays size out []
    → (message : List ℕ) → length before + (sum_by relay_size relays + length message) ≡ size
    → out ++ message ≡ before ++ relayed relays message
unfolding relayed
ends before relays size out h message whole = h.so_far message whole

pub next_relay : (relays : List Relay) (i : ℕ) (r : Relay) → i < length relays → r ≡ get_or relays i r
    → drop i relays ≡ r ∷ drop (i + 1) relays
next_relay relays i r lt is = rw add-one (drop-cons relays i r lt
    ∙ ap (λ (x : Relay). x ∷ drop (suc i) relays) (sym is))
