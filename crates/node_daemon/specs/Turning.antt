-- What a daemon does to a server, its clients and its partner, turn after turn.
use Rattle.std.specs.Prelude.{◌≡◌, ◌⊎◌, ℕ, List, [], Option}
use Rattle.daemon_io.specs.ConnectionWrites.{Sent}
use Rattle.server_core.specs.Served.{receipts_in}
use Rattle.failover_session.specs.declared.outbox.OutboundFrame.{OutboundFrame}
use Rattle.server_core.specs.declared.committed_output.HeldAnswer.{HeldAnswer}
use Rattle.server_core.specs.ServerStates.{CoreState}
use Rattle.server_core.specs.Saying.{AreBacked, handed_of}
use Rattle.server_core.specs.Committing.{IsRolled, IsCommitted}
use Rattle.server_clocks.specs.declared.clocks.Moment.{Moment}
use Rattle.daemon_endpoints.specs.declared.arrival.Arrival.{Arrival}
use Rattle.daemon_endpoints.specs.Receiving.{MayReceive, HasSameFiles, HasHeard}
use Rattle.daemon_endpoints.specs.Saying.{frames_of, SaysOver, MayStand}
use Rattle.daemon_endpoints.specs.Sending.{AllLeave}

-- gives says of a moment that a call of the clocks may have given it, and fails that a clock told no time. Listens and
-- Sends say of a way to those who send datagrams, before and behind a call, that one may have come, and what was sent.

-- the ways to others: that one, and what was given to the connection with the partner, if one stands
pub record Ways (Line : Type 0) : Type 0 where
  pub datagrams : Line
  pub link : Option Sent

abbrev pub ways : {Line : Type 0} → Line → Option Sent → Ways Line
ways datagrams link = record { datagrams = datagrams; link = link }

-- the next volume was begun, or none was
abbrev pub MayRoll : {P : Type 0} → CoreState P → CoreState P → Type 0
MayRoll old new = (new ≡ old) ⊎ IsRolled old new

-- All lines were put to the disk. Only then the answers that were held back left, and the frames, each of which is what
-- a receipt of these lines says, went to the partner.
pub record SendsAfterCommit {P Line : Type 0} (gives : Moment → Type 0) (fails : Type 0)
    (Sends : Line → P → List ℕ → Line → Type 0) (transit : ℕ) (way : Ways Line) (old : CoreState (Arrival P))
    (next : Ways Line) (new : CoreState (Arrival P)) : Type 0 where
  pub settled : CoreState (Arrival P)
  pub answers : List (HeldAnswer (Arrival P))
  pub settles : IsCommitted old answers settled
  pub leave : AllLeave gives fails Sends transit way.datagrams answers next.datagrams
  pub frames : List OutboundFrame
  pub held : frames ≡ handed_of old.talk
  pub backed : AreBacked (receipts_in old.volume.served) frames
  pub said : SaysOver (frames_of frames) way.link next.link
  pub after : HasSameFiles settled new

-- A turn: what came was heard, and each answer that is held back since is to a datagram that was heard in the turn, when
-- the clocks gave a moment, by whose reading its orders were done; the next volume was begun, where one was due; then
-- what was held back was told.
pub record IsTurn {P Line : Type 0} (gives : Moment → Type 0) (fails : Type 0) (Listens : Line → Line → Type 0)
    (Sends : Line → P → List ℕ → Line → Type 0) (transit : ℕ) (way : Ways Line) (old : CoreState (Arrival P))
    (next : Ways Line) (new : CoreState (Arrival P)) : Type 0 where
  pub heard : Ways Line
  pub hears : MayReceive Listens way.datagrams heard.datagrams
  pub stands : MayStand way.link heard.link
  pub ready : CoreState (Arrival P)
  pub same : HasHeard gives old ready
  pub begun : CoreState (Arrival P)
  pub rolls : MayRoll ready begun
  pub tells : SendsAfterCommit gives fails Sends transit heard begun next new

-- turns, one after the other
pub data Turns {P Line : Type 0} (gives : Moment → Type 0) (fails : Type 0) (Listens : Line → Line → Type 0)
    (Sends : Line → P → List ℕ → Line → Type 0) (transit : ℕ) (first : Ways Line) (begun : CoreState (Arrival P))
    : Ways Line → CoreState (Arrival P) → Type 0 where
  none : Turns gives fails Listens Sends transit first begun first begun
  more : (way : Ways Line) (old : CoreState (Arrival P)) (next : Ways Line) (new : CoreState (Arrival P))
      → Turns gives fails Listens Sends transit first begun way old
      → IsTurn gives fails Listens Sends transit way old next new
      → Turns gives fails Listens Sends transit first begun next new

-- Since the last turn datagrams may have come, and none was sent; the partner was told nothing but perhaps the last
-- word.
pub record SinceThen {Line : Type 0} (Listens : Line → Line → Type 0) (way last : Ways Line) : Type 0 where
  pub hears : MayReceive Listens way.datagrams last.datagrams
  pub stood : Option Sent
  pub stands : MayStand way.link stood
  pub said : SaysOver [] stood last.link

-- all that was told was told in a turn, behind its sync
abbrev pub HasTurned : {P Line : Type 0} → (gives : Moment → Type 0) → (fails : Type 0) → (Line → Line → Type 0)
    → (Line → P → List ℕ → Line → Type 0) → (transit : ℕ) → Ways Line → CoreState (Arrival P) → Ways Line → Type 0
HasTurned {P} {Line} gives fails Listens Sends transit first begun last =
    (way : Ways Line) × (reached : CoreState (Arrival P))
    × Turns gives fails Listens Sends transit first begun way reached × SinceThen Listens way last
