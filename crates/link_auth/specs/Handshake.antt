-- How the two ends of a connection prove to each other that they have the key, and by which keys they go on.
use Rattle.std.specs.Prelude.{◌≡◌, ◌<◌, ℕ, length, List, [], ◌∷◌, ◌++◌, codes}
use Rattle.link_auth.specs.declared.handshake_role.HandshakeRole.{HandshakeRole}
use Rattle.link_auth.specs.declared.handshake_role.HandshakeRole.TheVariants.{Initiator, Responder}
use Rattle.link_auth.specs.declared.derived.Purpose.{Purpose}
use Rattle.link_auth.specs.declared.derived.Purpose.TheVariants.{Proof, Records}
use Rattle.link_auth.specs.Hmac.{hmac}
use Rattle.link_auth.specs.Records.{Sender, Receiver}

abbrev pub side_octet : HandshakeRole → ℕ
side_octet Initiator = 1
side_octet Responder = 2

abbrev pub other_side : HandshakeRole → HandshakeRole
other_side Initiator = Responder
other_side Responder = Initiator

abbrev pub label_of : Purpose → List ℕ
label_of Proof = codes "fengtuyas link: proof"
label_of Records = codes "fengtuyas link: records"

-- what an end's octets are the code of: what they are for, whose they are, and both nonces, its own first
abbrev pub message_of : Purpose → HandshakeRole → (own other : List ℕ) → List ℕ
message_of purpose side own other = ((label_of purpose ++ side_octet side ∷ []) ++ own) ++ other

-- the octets of an end for a purpose
unfoldable pub derived : (key : List ℕ) → Purpose → HandshakeRole → (own other : List ℕ) → List ℕ
derived key purpose side own other = hmac key (message_of purpose side own other)

-- ---- one end

pub record Party : Type 0 where
  pub key : List ℕ
  pub side : HandshakeRole
  pub nonce : List ℕ

-- with the other's nonce
pub record Meeting : Type 0 where
  pub party : Party
  pub other : List ℕ

-- and what has come from the other so far: less than its nonce and its proof
pub record Opened : Type 0 where
  pub party : Party
  pub heard : List ℕ

abbrev pub IsOpening : (heard : List ℕ) → Type 0
IsOpening heard = length heard < 64

-- its octets for a purpose, and the other end's where that has the key
abbrev pub own_for : Meeting → Purpose → List ℕ
own_for m purpose = derived m.party.key purpose m.party.side m.party.nonce m.other

abbrev pub other_for : Meeting → Purpose → List ℕ
other_for m purpose = derived m.party.key purpose (other_side m.party.side) m.other m.party.nonce

-- both directions begin: each with the key of who sends, the number 0, and no octets
pub record Joins (m : Meeting) (writer : Sender) (reader : Receiver) : Type 0 where
  pub sends : writer ≡ record { key = own_for m Records; number = 0 }
  pub receives : reader ≡ record { key = other_for m Records; number = 0; held = [] }
