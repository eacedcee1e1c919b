-- What an end makes of what comes over a connection until its other end counts as the partner.
use Rattle.std.specs.Prelude.{⊤, ◌≡◌, ◌⊎◌, ℕ, ◌-◌, List, [], ◌∷◌, ◌++◌, length, drop, Option, Some, None}
use Rattle.std.specs.Prelude.{Result, Ok, Err}
use Rattle.binding_rules.specs.declared.role.Role.TheVariants.{Primary}
use Rattle.failover_message.specs.Stream.{IsPartial, Splits, Breaks}
use Rattle.failover_message.specs.declared.error.LinkError.{LinkError}
use Rattle.failover_message.specs.declared.frame.Frame.{Frame}
use Rattle.failover_message.specs.declared.frame.FrameKind.{FrameKind}
use Rattle.failover_message.specs.declared.frame.FrameKind.TheVariants.{Connect}
use Rattle.link_auth.specs.declared.handshake_role.HandshakeRole.{HandshakeRole}
use Rattle.link_auth.specs.declared.handshake_role.HandshakeRole.TheVariants.{Initiator, Responder}
use Rattle.link_auth.specs.Handshake.{Opened}
use Rattle.link_auth.specs.KeyHandshakes.{Hears as OpeningHears}
use Rattle.link_auth.specs.declared.handshake.RecordChannel.{RecordChannel as JoinedValue}
use Rattle.link_auth.specs.declared.key_handshake.PeerNonces.{PeerNonces}
use Rattle.link_auth.specs.declared.key_handshake.HandshakeProgress.TheVariants.{More, Joined}
use Rattle.link_auth.specs.declared.fault.LinkFault.{LinkFault}
use Rattle.link_auth.specs.declared.fault.LinkFault.TheVariants.{Forged as ForgedProof, Memory as NoMemory}
use Rattle.link_auth.specs.Passing.{Takes}
use Rattle.link_auth.specs.declared.secure_channel.SecureChannel.TheVariants.{Plain, Authenticated}
use Rattle.link_auth.specs.declared.entry_fault.EntryFault.{EntryFault}
use Rattle.link_auth.specs.declared.entry_fault.EntryFault.TheVariants.{Forged, Stranger, Memory}
use Rattle.link_auth.specs.declared.peer_entry.AuthenticatedPeer.{AuthenticatedPeer}
use Rattle.link_auth.specs.declared.peer_entry.PeerEntry.{PeerEntry}
use Rattle.link_auth.specs.declared.peer_entry.PeerEntry.TheVariants.{Proof, Greeting, Callee}
use Rattle.link_auth.specs.declared.peer_entry.EntryProgress.{EntryProgress}
use Rattle.link_auth.specs.declared.peer_entry.EntryProgress.TheVariants.{Waits, Admitted}

-- the primary's first frame
abbrev pub IsConnect : FrameKind → Type 0
IsConnect (Connect Primary last) = ⊤
IsConnect _ = ⊥

-- ---- beginnings

-- a connection begins, by the side and the key of an end and the nonce that was drawn for it
abbrev pub Begins : HandshakeRole → Option (List ℕ) → (nonce : List ℕ) → PeerEntry → Type 0
Begins side (Some key) nonce waiting =
    waiting ≡ Proof (record { party = record { key = key; side = side; nonce = nonce }; heard = [] })
Begins Initiator None nonce waiting = waiting ≡ Callee
Begins Responder None nonce (Greeting heard) = heard.items ≡ []
Begins Responder None nonce _ = ⊥

-- what is sent first
abbrev pub greeting_of : PeerEntry → Option (List ℕ)
greeting_of (Proof o) = Some o.party.nonce
greeting_of (Greeting heard) = None
greeting_of Callee = None

-- ---- with a key

abbrev pub fault_of : LinkFault → EntryFault
fault_of NoMemory = Memory
fault_of _ = Forged

-- The other end has the key, what its records behind the proof say has come already, and both nonces are known.
pub record IsProved (o : Opened) (chunk : List ℕ) (e : AuthenticatedPeer) : Type 0 where
  pub joined : JoinedValue
  pub nonces : PeerNonces
  pub behind : ℕ
  pub proof : OpeningHears o chunk (Ok (Joined joined e.answer nonces behind))
  pub known : e.nonces ≡ Some nonces
  pub first : Takes (Authenticated joined) (drop (length chunk - behind) chunk) e.ahead.items e.passage

-- It hasn't: its proof is wrong, or a record behind that.
abbrev pub IsForged : Opened → (chunk : List ℕ) → Type 0
IsForged o chunk = OpeningHears o chunk (Err ForgedProof)
    ⊎ ((joined : JoinedValue) × (answer : Option (List ℕ)) × (nonces : PeerNonces) × (behind : ℕ)
    × OpeningHears o chunk (Ok (Joined joined answer nonces behind)))

abbrev pub Proves : Opened → (chunk : List ℕ) → Result EntryProgress EntryFault → Type 0
Proves o chunk (Ok (Waits (Proof more) answer)) = OpeningHears o chunk (Ok (More more answer))
Proves o chunk (Ok (Admitted e)) = IsProved o chunk e
Proves o chunk (Err Forged) = IsForged o chunk
Proves o chunk (Err Memory) = ⊤
Proves o chunk _ = ⊥

-- ---- without a key

-- The other end was let in by what has come: octets go as they are, nothing is to be sent, and there are no nonces.
pub record IsPlain (come : List ℕ) (e : AuthenticatedPeer) : Type 0 where
  pub passage : e.passage ≡ Plain
  pub ahead : e.ahead.items ≡ come
  pub answer : e.answer ≡ None
  pub nonces : e.nonces ≡ None

-- what has come begins with the primary's first frame, or with anything else
abbrev pub IsGreeting : (come : List ℕ) → Type 0
IsGreeting come = (frame : Frame) × (frames : List Frame) × (rest : List ℕ)
    × Splits come (frame ∷ frames) rest × IsConnect frame.kind

abbrev pub IsStrange : (come : List ℕ) → Type 0
IsStrange come = ((fault : LinkError) × Breaks come fault)
    ⊎ ((frame : Frame) × (frames : List Frame) × (rest : List ℕ)
    × Splits come (frame ∷ frames) rest × (IsConnect frame.kind → ⊥))

abbrev pub Greets : (come : List ℕ) → Result EntryProgress EntryFault → Type 0
Greets come (Ok (Waits (Greeting heard) answer)) = IsPartial come × (heard.items ≡ come) × (answer ≡ None)
Greets come (Ok (Admitted e)) = IsGreeting come × IsPlain come e
Greets come (Err Stranger) = IsStrange come
Greets come (Err Memory) = ⊤
Greets come _ = ⊥

-- for bodies only: the same, where what has come begins with these frames
abbrev pub Greeted : (come : List ℕ) → List Frame → Result EntryProgress EntryFault → Type 0
Greeted come [] (Ok (Waits (Greeting heard) answer)) = (heard.items ≡ come) × (answer ≡ None)
Greeted come (frame ∷ frames) (Ok (Admitted e)) = IsConnect frame.kind × IsPlain come e
Greeted come (frame ∷ frames) (Err Stranger) = IsConnect frame.kind → ⊥
Greeted come _ _ = ⊥

-- ---- what a chunk leads to

abbrev pub Hears : PeerEntry → (chunk : List ℕ) → Result EntryProgress EntryFault → Type 0
Hears (Proof o) chunk result = Proves o chunk result
Hears (Greeting heard) chunk result = Greets (heard.items ++ chunk) result
Hears Callee chunk (Ok (Admitted e)) = IsPlain chunk e
Hears Callee chunk (Err Memory) = ⊤
Hears Callee chunk _ = ⊥
