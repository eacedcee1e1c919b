-- What one end of the link reads of its wire and writes to it: frames, whose messages its receipts say were sent.
use Rattle.std.specs.Prelude.{◌≡◌, ◌⊎◌, ℕ, ⊤, List, [], ◌∷◌, ◌++◌, Result, Ok, Err}
use Rattle.binding_rules.specs.declared.message.PartnerMessage.{PartnerMessage}
use Rattle.binding_rules.specs.declared.role.Role.{Role}
use Rattle.failover_message.specs.Frames.{frame_octets}
use Rattle.locked_book.specs.declared.receipt.Receipt.{Receipt}
use Rattle.failover_session.specs.declared.outbox.OutboundFrame.{OutboundFrame}
use Rattle.failover_session.specs.OutboundFrames.{FrameMeaning, meanings_of}
use Rattle.failover_session.specs.Sessions.{Met, Handles}
use Rattle.node_threads.specs.declared.error.NodeError.{NodeError}
use Rattle.node_threads.specs.declared.error.NodeError.TheVariants.{Write, Memory}

-- Brings, Writes and Fails say of a wire before and behind a call what came, what was written, and that it failed

-- from the first wire to this one these octets came, and these frames were written, each whole, in their order
pub data Carried {Line : Type 0} (Brings Writes : Line → List ℕ → Line → Type 0) (first : Line)
    : List ℕ → List OutboundFrame → Line → Type 0 where
  nothing : Carried Brings Writes first [] [] first
  came : (octets : List ℕ) (frames : List OutboundFrame) (old new : Line) (more : List ℕ)
      → Carried Brings Writes first octets frames old → Brings old more new
      → Carried Brings Writes first (octets ++ more) frames new
  went : (octets : List ℕ) (frames : List OutboundFrame) (h : OutboundFrame) (old new : Line)
      → Carried Brings Writes first octets frames old → Writes old (frame_octets h.frame) new
      → Carried Brings Writes first octets (frames ++ h ∷ []) new

-- a write that failed, or memory that lacked for a frame's octets, may lose what was to be written
abbrev pub MayLose : {T : Type 0} → Result T NodeError → Type 0
MayLose (Err Write) = ⊤
MayLose (Err Memory) = ⊤
MayLose _ = ⊥

-- of these frames, in their order, so many were written, all but where a write failed or memory lacked
pub record HandsOut {Line T : Type 0} (Brings Writes : Line → List ℕ → Line → Type 0) (Fails : Line → Line → Type 0)
    (octets : List ℕ) (frames : List OutboundFrame) (old new : Line) (result : Result T NodeError) : Type 0 where
  pub front : List OutboundFrame
  pub rest : List OutboundFrame
  pub all : frames ≡ front ++ rest
  pub last : Line
  pub carried : Carried Brings Writes old octets front last
  pub ended : (new ≡ last) ⊎ Fails last new
  pub lost : MayLose result ⊎ (rest ≡ [])

-- the same of frames that say nothing of a journal, where octets may have come
abbrev pub SaysWords : {Line T : Type 0} (Brings Writes : Line → List ℕ → Line → Type 0) (Fails : Line → Line → Type 0)
    → Line → Line → Result T NodeError → Type 0
SaysWords Brings Writes Fails old new result =
    (octets : List ℕ) × (words : List OutboundFrame) × (meanings_of words ≡ [])
    × HandsOut Brings Writes Fails octets words old new result

-- what is heard and said, behind what was said first
abbrev pub HearsBehind : Role → List FrameMeaning → List PartnerMessage → Met → Met → List Receipt → List Receipt → List OutboundFrame
    → Type 0
HearsBehind role first heard before after had has frames =
    (words : List OutboundFrame) × (meanings_of words ≡ first) × Handles role heard before after had has words frames

-- Octets came, and of the messages in them some were heard, as Reads says; the lines that were added take those of them
-- that are newer than all before. Frames were written: of their messages each is one that a receipt says was sent.
-- First is what a server says before it has heard of its partner; then its answer, and what was sent above the serial
-- that the partner named, where it named one; then what the receipts that were added say, in their order; and none is
-- left out but where a write failed or memory lacked, which leaves out the rest of them.
pub record WritesInOrder {Line T : Type 0} (Brings Writes : Line → List ℕ → Line → Type 0) (Fails : Line → Line → Type 0)
    (Reads : List ℕ → List PartnerMessage → Type 0) (role : Role) (first : List FrameMeaning) (before after : Met)
    (had has : List Receipt) (old new : Line) (result : Result T NodeError) : Type 0 where
  pub octets : List ℕ
  pub frames : List OutboundFrame
  pub rest : List OutboundFrame
  pub heard : List PartnerMessage
  pub reads : Reads octets heard
  pub told : HearsBehind role first heard before after had has (frames ++ rest)
  pub last : Line
  pub carried : Carried Brings Writes old octets frames last
  pub ended : (new ≡ last) ⊎ Fails last new
  pub lost : MayLose result ⊎ (rest ≡ [])

-- the same of a connection that goes on: all of it was written
pub record HasTold {Line : Type 0} (Brings Writes : Line → List ℕ → Line → Type 0)
    (Reads : List ℕ → List PartnerMessage → Type 0) (role : Role) (first : List FrameMeaning) (before after : Met)
    (had has : List Receipt) (old new : Line) : Type 0 where
  pub octets : List ℕ
  pub frames : List OutboundFrame
  pub heard : List PartnerMessage
  pub reads : Reads octets heard
  pub told : HearsBehind role first heard before after had has frames
  pub carried : Carried Brings Writes old octets frames new

-- octets may have come, until a read failed or none did
pub record HasHeard {Line : Type 0} (Brings Writes : Line → List ℕ → Line → Type 0) (Fails : Line → Line → Type 0)
    (old new : Line) : Type 0 where
  pub octets : List ℕ
  pub last : Line
  pub carried : Carried Brings Writes old octets [] last
  pub ended : (new ≡ last) ⊎ Fails last new

-- octets may have come
abbrev pub MayHear : {Line : Type 0} (Brings Writes : Line → List ℕ → Line → Type 0) → Line → Line → Type 0
MayHear Brings Writes old new = (octets : List ℕ) × Carried Brings Writes old octets [] new

-- what comes of a frame's writing
abbrev pub IsWritten : {Line T : Type 0} (Writes : Line → List ℕ → Line → Type 0) (Fails : Line → Line → Type 0)
    → List ℕ → Line → Line → Result T NodeError → Type 0
IsWritten Writes Fails octets old new (Ok x) = Writes old octets new
IsWritten Writes Fails octets old new (Err Write) = Fails old new
IsWritten Writes Fails octets old new (Err Memory) = new ≡ old
IsWritten Writes Fails octets old new (Err e) = ⊥
