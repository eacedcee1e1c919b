-- What the partner is told: frames that are given to a connection, each whole, in their order.
use Rattle.std.specs.Prelude.{◌≡◌, ◌⊎◌, ⊤, List, [], ◌∷◌, ◌++◌, Option, Some, None, IfSome, map}
use Rattle.daemon_io.specs.ConnectionWrites.{Sent, WritesOctets, Stays, OnlyHears, IsUnused}
use Rattle.failover_message.specs.Frames.{frame_octets}
use Rattle.failover_message.specs.declared.frame.Frame.{Frame}
use Rattle.failover_message.specs.declared.frame.FrameKind.TheVariants.{Disconnect}
use Rattle.failover_session.specs.declared.outbox.OutboundFrame.{OutboundFrame}
use Rattle.link_notices.specs.Items.{notice_octets}
use Rattle.link_notices.specs.Spelling.{notice_text}
use Rattle.link_notices.specs.declared.notice.Notice.{Notice}

-- A connection is known by the octets that it was given so far, where these are known, and by how octets go over it.

-- frames were given, one after the other: each as its octets are, or in the records that say them; and notices between
-- them
pub data AreGiven (first : Sent) : List Frame → Sent → Type 0 where
  none : AreGiven first [] first
  more : (frames : List Frame) (frame : Frame) (old new : Sent)
      → AreGiven first frames old → WritesOctets (frame_octets frame) old new
      → AreGiven first (frames ++ frame ∷ []) new
  noticed : (frames : List Frame) (notice : Notice) (old new : Sent)
      → AreGiven first frames old → WritesOctets (notice_octets (notice_text notice)) old new
      → AreGiven first frames new
  kept : (frames : List Frame) (old new : Sent)
      → AreGiven first frames old → Stays old new → AreGiven first frames new
  heard : (frames : List Frame) (old new : Sent)
      → AreGiven first frames old → OnlyHears old new → AreGiven first frames new

abbrev pub frames_of : List OutboundFrame → List Frame
frames_of handed = map (λ (h : OutboundFrame). h.frame) handed

-- of these frames the first so many were given: all of them, or the connection is over
pub record AreFirstGiven (frames : List Frame) (old new : Sent) (is_over : Type 0) : Type 0 where
  pub front : List Frame
  pub rest : List Frame
  pub all : frames ≡ front ++ rest
  pub given : AreGiven old front new
  pub lost : is_over ⊎ (rest ≡ [])

-- DISCONNECT, by which a server leaves: it says nothing of a journal
abbrev pub last_word : Frame
last_word = record { term = 0; serial = 0; kind = Disconnect }

abbrev pub IsLastWord : List Frame → Type 0
IsLastWord words = (words ≡ []) ⊎ (words ≡ last_word ∷ [])

-- of these frames the first so many, and then maybe the last word
pub record Says (frames : List Frame) (old new : Sent) : Type 0 where
  pub front : List Frame
  pub rest : List Frame
  pub words : List Frame
  pub all : frames ≡ front ++ rest
  pub last : IsLastWord words
  pub given : AreGiven old (front ++ words) new

-- ---- the connection that stands, if one does

-- Frames were said to it, where one stood; it stands on, or it is over.
abbrev pub SaysOver : List Frame → Option Sent → Option Sent → Type 0
SaysOver frames None after = after ≡ None
SaysOver frames (Some old) after = (last : Sent) × Says frames old last × IfSome after (λ new. new ≡ last)

-- It stands on, and was given nothing.
abbrev pub StandsOn : Option Sent → Option Sent → Type 0
StandsOn None after = after ≡ None
StandsOn (Some old) after = (new : Sent) × (after ≡ Some new) × AreGiven old [] new

-- it is the one that stood
abbrev pub IsSame : Option Sent → Sent → Type 0
IsSame None new = ⊥
IsSame (Some old) new = OnlyHears old new

-- While a server hears, it gives nothing: what stands then is the one that stood, or another that was let in, over
-- which no record was put yet.
abbrev pub MayStand : Option Sent → Option Sent → Type 0
MayStand before None = ⊤
MayStand before (Some new) = IsSame before new ⊎ IsUnused new.passage
