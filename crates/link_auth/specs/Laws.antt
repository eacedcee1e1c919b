-- What holds of all streams of records.
--
-- A code under a key is taken for ideal: who hasn't the key can't make one. So a record stands in a stream with its
-- code only where the writer made it: its piece, with its number. This is a premise on the octets that came
-- (OnlyWritten), and no claim about SHA-256, of which nothing of the kind is known.
use Rattle.std.specs.Prelude.{◌≡◌, ℕ, ◌+◌, ◌<◌, ◌≤◌, ◌^◌, List, [], ◌∷◌, ◌++◌, length, slice_get, Some}
use Rattle.std.specs.List.{concat, flat_map}
use Rattle.link_auth.specs.declared.fault.LinkFault.{LinkFault}
use Rattle.link_auth.specs.declared.derived.Purpose.{Purpose}
use Rattle.link_auth.specs.declared.handshake_role.HandshakeRole.{HandshakeRole}
use Rattle.link_auth.specs.Handshake.{message_of, other_side, own_for, other_for}
use Rattle.link_auth.specs.Records.{record_of, records_of, AreFit, Splits, Breaks, Receiver, Receives}

-- ---- proofs and keys

-- No message is that of two purposes, two sides or two pairs of nonces: so a proof that is sent back is no proof of the
-- other end, and each direction of each connection has a key of its own, as far as codes of different messages differ.
abbrev pub MessagesStandApart : Type 0
MessagesStandApart = (p q : Purpose) (s t : HandshakeRole) (own other mine theirs : List ℕ) → length own ≡ 32
    → length other ≡ 32 → length mine ≡ 32 → length theirs ≡ 32
    → message_of p s own other ≡ message_of q t mine theirs
    → (p ≡ q) × (s ≡ t) × (own ≡ mine) × (other ≡ theirs)

-- two ends with one key find each other's proof right, and each reads by the key that the other writes by
abbrev pub EndsMeet : Type 0
EndsMeet = (key own other : List ℕ) (side : HandshakeRole) (purpose : Purpose)
    → other_for (record { party = record { key = key; side = side; nonce = own }; other = other }) purpose
    ≡ own_for (record { party = record { key = key; side = other_side side; nonce = other }; other = own }) purpose

-- ---- streams

-- a stream is records, and less than a whole one, in one way only
abbrev pub OneReading : Type 0
OneReading = (key : List ℕ) (number : ℕ) (stream : List ℕ) (ps qs : List (List ℕ)) (rest left : List ℕ)
    → Splits key number stream ps rest → Splits key number stream qs left → (ps ≡ qs) × (rest ≡ left)

-- and then it has no fault
abbrev pub NeverBoth : Type 0
NeverBoth = (key : List ℕ) (number : ℕ) (stream : List ℕ) (ps : List (List ℕ)) (rest : List ℕ) (fault : LinkFault)
    → Splits key number stream ps rest → Breaks key number stream fault → ⊥

-- what a writer wrote is such a stream
abbrev pub WrittenIsRead : Type 0
WrittenIsRead = (key : List ℕ) (number : ℕ) (pieces : List (List ℕ)) → AreFit pieces → number + length pieces < 2 ^ 64
    → Splits key number (records_of key number pieces) pieces []

-- ---- chunks

-- a chunk, and the pieces that a reader gave for it
pub record Fed : Type 0 where
  pub chunk : List ℕ
  pub pieces : List (List ℕ)

-- chunks that a reader took one after another; a refused chunk gave nothing and left the reader as it was
abbrev pub Feeds : Receiver → List Fed → Receiver → Type 0
Feeds before [] after = after ≡ before
Feeds before (fed ∷ feds) after =
    (next : Receiver) × Receives before fed.chunk fed.pieces next × Feeds next feds after

abbrev pub chunks_of : List Fed → List ℕ
chunks_of feds = flat_map (λ fed. fed.chunk) feds

abbrev pub pieces_of : List Fed → List (List ℕ)
pieces_of feds = flat_map (λ fed. fed.pieces) feds

abbrev pub fresh : (key : List ℕ) → Receiver
fresh key = record { key = key; number = 0; held = [] }

-- however a stream is cut into chunks, a reader gives the pieces of the whole stream, each once and in order
abbrev pub ChunksJoin : Type 0
ChunksJoin = (key : List ℕ) (feds : List Fed) (after : Receiver) → Feeds (fresh key) feds after
    → Splits key 0 (chunks_of feds) (pieces_of feds) after.held

-- ---- what the other end sent

-- each record that stands in the stream is one that the writer made: the piece of this number
pub record OnlyWritten (key : List ℕ) (written : List (List ℕ)) (stream : List ℕ) : Type 0 where
  pub each : (number : ℕ) (piece before behind : List ℕ) → number < 2 ^ 64 → length piece ≤ 16384
      → stream ≡ before ++ (record_of key number piece ++ behind) → slice_get written number ≡ Some piece

-- what a reader gives is a beginning of what the writer was given, octet by octet
abbrev pub ReadIsBeginning : Type 0
ReadIsBeginning = (key : List ℕ) (written : List (List ℕ)) (feds : List Fed) (after : Receiver)
    → Feeds (fresh key) feds after → OnlyWritten key written (chunks_of feds)
    → (behind : List (List ℕ)) × (written ≡ pieces_of feds ++ behind)
    × (concat written ≡ concat (pieces_of feds) ++ concat behind)
