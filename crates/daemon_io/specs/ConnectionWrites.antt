-- What a connection is given to write.
use Rattle.std.specs.Prelude.{⊤, ◌≡◌, ◌≤◌, ℕ, List, Option, Result, Err, take, drop, Bool}
use Rattle.std.specs.Io.KnownBytes.{append_known, Appends, Keeps}
use Rattle.std.specs.declared.time.Instant.{Instant}
use Rattle.daemon_io.specs.declared.connection.ConnectionLost.{ConnectionLost}
use Rattle.daemon_io.specs.declared.connection.ConnectionLost.TheVariants.{Memory, Spent}
use Rattle.daemon_io.specs.declared.notice_use.NoticeUse.{NoticeUse}
use Rattle.link_auth.specs.Passing.{Puts}
use Rattle.link_auth.specs.declared.secure_channel.SecureChannel.{SecureChannel}
use Rattle.link_auth.specs.declared.secure_channel.SecureChannel.TheVariants.{Plain, Authenticated}

-- the octets that were given: those that the stream has, where they are known, and then those that wait for it
abbrev pub given : Option (List ℕ) → List ℕ → Option (List ℕ)
given contents waits = append_known contents waits

-- what a connection was given so far, where that is known, and how octets go over it
pub record Sent : Type 0 where
  pub given : Option (List ℕ)
  pub passage : SecureChannel

-- a connection: that; when octets came last, before when it began; whether any came; and whether notices go over it
pub record ConnectionState : Type 0 where
  pub sent : Sent
  pub heard : Instant
  pub has_heard : Bool
  pub notices : NoticeUse

-- of the octets that wait the first so many went to the stream
abbrev pub IsPassedOn : Option (List ℕ) → List ℕ → Option (List ℕ) → List ℕ → Type 0
IsPassedOn old waited new waits = (count : ℕ) × (waits ≡ drop count waited) × Appends old new (take count waited)

-- Octets were given behind the others: as they are, or in the records that say them.
pub record WritesOctets (octets : List ℕ) (old new : Sent) : Type 0 where
  pub stream : List ℕ
  pub puts : Puts old.passage octets stream new.passage
  pub behind : Appends old.given new.given stream

-- Nothing was given. Numbers of records may have been left out: none is used again.
abbrev pub Skips : SecureChannel → SecureChannel → Type 0
Skips Plain Plain = ⊤
Skips (Authenticated old) (Authenticated new) = (new.writer.key ≡ old.writer.key)
    × (old.writer.number ≤ new.writer.number) × (new.reader ≡ old.reader)
Skips _ _ = ⊥

pub record Stays (old new : Sent) : Type 0 where
  pub given : Keeps old.given new.given
  pub passage : Skips old.passage new.passage

-- Octets may have come: nothing was given, and what is given next goes out as before.
abbrev pub GoesOutAsBefore : SecureChannel → SecureChannel → Type 0
GoesOutAsBefore Plain Plain = ⊤
GoesOutAsBefore (Authenticated old) (Authenticated new) = new.writer ≡ old.writer
GoesOutAsBefore _ _ = ⊥

pub record OnlyHears (old new : Sent) : Type 0 where
  pub given : Keeps old.given new.given
  pub passage : GoesOutAsBefore old.passage new.passage

-- no record was put yet
abbrev pub IsUnused : SecureChannel → Type 0
IsUnused Plain = ⊤
IsUnused (Authenticated joined) = joined.writer.number ≡ 0

-- octets were given; where memory or a number lacked, none
abbrev pub IsGiven : {T : Type 0} → List ℕ → Sent → Sent → Result T ConnectionLost → Type 0
IsGiven octets old new (Err Memory) = Stays old new
IsGiven octets old new (Err Spent) = Stays old new
IsGiven octets old new _ = WritesOctets octets old new
