-- The records of one direction of a connection: octets cut into pieces, each piece with its length in front and its
-- code behind it. A code is that of the piece's number too, so that each record has one place.
use Rattle.std.specs.Prelude.{◌≡◌, ◌≢◌, ◌⊎◌, ℕ, ◌+◌, ◌^◌, ◌≤◌, ◌<◌, List, [], ◌∷◌, ◌++◌, length, take, drop}
use Rattle.std.specs.Int.{w16, w64, to_be_bytes, from_be_bytes}
use Rattle.std.specs.List.{AllByRecursion, concat}
use Rattle.link_auth.specs.declared.fault.LinkFault.{LinkFault}
use Rattle.link_auth.specs.declared.fault.LinkFault.TheVariants.{TooLong, Forged, Spent, Memory}
use Rattle.link_auth.specs.Hmac.{hmac}

-- the code of a record: half of the HMAC over its number, its length and its piece, under its direction's key
unfoldable pub code_of : (key : List ℕ) (number : ℕ) (piece : List ℕ) → List ℕ
code_of key number piece =
    take 16 (hmac key ((to_be_bytes w64 number ++ to_be_bytes w16 (length piece)) ++ piece))

unfoldable pub record_of : (key : List ℕ) (number : ℕ) (piece : List ℕ) → List ℕ
record_of key number piece = to_be_bytes w16 (length piece) ++ (piece ++ code_of key number piece)

-- records one behind another, numbered from this number on
abbrev pub records_of : (key : List ℕ) (number : ℕ) (pieces : List (List ℕ)) → List ℕ
records_of key number [] = []
records_of key number (piece ∷ pieces) = record_of key number piece ++ records_of key (number + 1) pieces

-- ---- what is in front of a stream

-- what the length in front says
abbrev pub length_of : (stream : List ℕ) → ℕ
length_of stream = from_be_bytes w16 (take 2 stream)

-- the piece and the code of the record in front, where it is whole
abbrev pub piece_in : (stream : List ℕ) → List ℕ
piece_in stream = take (length_of stream) (drop 2 stream)

abbrev pub code_in : (stream : List ℕ) → List ℕ
code_in stream = take 16 (drop (length_of stream) (drop 2 stream))

-- less than a whole record, whose length may be right
abbrev pub IsPartial : (stream : List ℕ) → Type 0
IsPartial stream = (length stream < 2)
    ⊎ ((length_of stream ≤ 16384) × (length stream < length_of stream + 18))

-- a whole record is in front, with this number's code or with another
pub record Stands (key : List ℕ) (number : ℕ) (piece stream rest : List ℕ) : Type 0 where
  pub fits : length piece ≤ 16384
  pub parts : stream ≡ record_of key number piece ++ rest

pub record IsForged (key : List ℕ) (number : ℕ) (stream : List ℕ) : Type 0 where
  pub fits : length_of stream ≤ 16384
  pub whole : length_of stream + 18 ≤ length stream
  pub differs : code_in stream ≢ code_of key number (piece_in stream)

-- a whole record is in front, and the next would have no number
pub record IsSpent (key : List ℕ) (number : ℕ) (stream : List ℕ) : Type 0 where
  pub last : number + 1 ≡ 2 ^ 64
  pub piece : List ℕ
  pub rest : List ℕ
  pub stands : Stands key number piece stream rest

-- why the record in front isn't read
abbrev pub HasFault : (key : List ℕ) (number : ℕ) (stream : List ℕ) → LinkFault → Type 0
HasFault key number stream TooLong = (2 ≤ length stream) × (16384 < length_of stream)
HasFault key number stream Forged = IsForged key number stream
HasFault key number stream Spent = IsSpent key number stream
HasFault key number stream Memory = ⊥

-- ---- streams

abbrev pub AreFit : (pieces : List (List ℕ)) → Type 0
AreFit pieces = AllByRecursion (λ piece. length piece ≤ 16384) pieces

-- a stream is the records of these pieces, and then less than a whole one
pub record Splits (key : List ℕ) (number : ℕ) (stream : List ℕ) (pieces : List (List ℕ)) (rest : List ℕ) : Type 0 where
  pub fit : AreFit pieces
  pub numbers : number + length pieces < 2 ^ 64
  pub parts : stream ≡ records_of key number pieces ++ rest
  pub partial : IsPartial rest

-- a stream is the records of some pieces, and then comes one with this fault
pub record Breaks (key : List ℕ) (number : ℕ) (stream : List ℕ) (fault : LinkFault) : Type 0 where
  pub pieces : List (List ℕ)
  pub rest : List ℕ
  pub fit : AreFit pieces
  pub parts : stream ≡ records_of key number pieces ++ rest
  pub has_fault : HasFault key (number + length pieces) rest fault

-- ---- the two ends of a direction

-- its key, and the number of the next record
pub record Sender : Type 0 where
  pub key : List ℕ
  pub number : ℕ

-- and the octets that came and are less than a whole record
pub record Receiver : Type 0 where
  pub key : List ℕ
  pub number : ℕ
  pub held : List ℕ

-- octets became the records of pieces of them
pub record Sends (before : Sender) (octets stream : List ℕ) (after : Sender) : Type 0 where
  pub pieces : List (List ℕ)
  pub fit : AreFit pieces
  pub whole : concat pieces ≡ octets
  pub records : stream ≡ records_of before.key before.number pieces
  pub key : after.key ≡ before.key
  pub number : after.number ≡ before.number + length pieces

-- with a chunk these pieces came whole
pub record Receives (before : Receiver) (chunk : List ℕ) (pieces : List (List ℕ)) (after : Receiver) : Type 0 where
  pub splits : Splits before.key before.number (before.held ++ chunk) pieces after.held
  pub key : after.key ≡ before.key
  pub number : after.number ≡ before.number + length pieces
