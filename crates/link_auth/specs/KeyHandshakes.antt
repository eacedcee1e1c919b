-- What an end makes of the other's nonce and proof, which come in chunks.
use Rattle.std.specs.Prelude.{⊤, ◌≡◌, ◌≢◌, ℕ, ◌+◌, ◌<◌, ◌≤◌, nat_le, List, ◌++◌, length, take, drop, Option, Some}
use Rattle.std.specs.Prelude.{None, Result, Ok, Err, if◌then◌else◌}
use Rattle.link_auth.specs.declared.fault.LinkFault.{LinkFault}
use Rattle.link_auth.specs.declared.fault.LinkFault.TheVariants.{Forged, Memory}
use Rattle.link_auth.specs.declared.key_handshake.HandshakeProgress.{HandshakeProgress}
use Rattle.link_auth.specs.declared.key_handshake.HandshakeProgress.TheVariants.{More, Joined}
use Rattle.link_auth.specs.declared.key_handshake.PeerNonces.{PeerNonces}
use Rattle.link_auth.specs.declared.derived.Purpose.TheVariants.{Proof}
use Rattle.link_auth.specs.Handshake.{Meeting, Opened, own_for, other_for, Joins}

-- what has come when this chunk has
abbrev pub come : Opened → (chunk : List ℕ) → List ℕ
come o chunk = o.heard ++ chunk

-- the end with the nonce that stands in front of what has come
abbrev pub meeting : Opened → (come : List ℕ) → Meeting
meeting o come = record { party = o.party; other = take 32 come }

-- its proof is to be sent with the chunk that completes the nonce, and not again
abbrev pub answer_to : (had : ℕ) → Meeting → Option (List ℕ)
answer_to had m = if nat_le 32 had then None else Some (own_for m Proof)

abbrev pub answer_in : Opened → (come : List ℕ) → Option (List ℕ)
answer_in o come = if nat_le 32 (length come) then answer_to (length o.heard) (meeting o come) else None

-- both nonces
abbrev pub nonces_of : Meeting → PeerNonces
nonces_of m = record { own = m.party.nonce; other = m.other }

-- the other's proof, behind its nonce
abbrev pub proof_in : (come : List ℕ) → List ℕ
proof_in come = take 32 (drop 32 come)

abbrev pub Hears : Opened → (chunk : List ℕ) → Result HandshakeProgress LinkFault → Type 0
Hears o chunk (Ok (More opening answer)) = (length (come o chunk) < 64)
    × (opening ≡ record { party = o.party; heard = come o chunk }) × (answer ≡ answer_in o (come o chunk))
Hears o chunk (Ok (Joined joined answer nonces behind)) = (64 + behind ≡ length (come o chunk))
    × (proof_in (come o chunk) ≡ other_for (meeting o (come o chunk)) Proof)
    × (answer ≡ answer_in o (come o chunk)) × Joins (meeting o (come o chunk)) joined.writer joined.reader
    × (nonces ≡ nonces_of (meeting o (come o chunk)))
Hears o chunk (Err Forged) = (64 ≤ length (come o chunk))
    × (proof_in (come o chunk) ≢ other_for (meeting o (come o chunk)) Proof)
Hears o chunk (Err Memory) = ⊤
Hears o chunk (Err fault) = ⊥
