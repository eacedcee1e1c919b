-- What a daemon has done that was told to stop.
use Rattle.std.specs.Prelude.{ℕ, List, [], Option, Some, None}
use Rattle.daemon_io.specs.ConnectionWrites.{Sent}
use Rattle.server_clocks.specs.declared.clocks.Moment.{Moment}
use Rattle.server_core.specs.ServerStates.{CoreState}
use Rattle.daemon_endpoints.specs.declared.arrival.Arrival.{Arrival}
use Rattle.daemon_endpoints.specs.Receiving.{MayReceive}
use Rattle.daemon_endpoints.specs.Saying.{MayStand, SaysOver}
use Rattle.folder_start.specs.declared.pairing.Pairing.{Pairing}
use Rattle.folder_start.specs.declared.pairing.Pairing.TheVariants.{Paired, Alone}
use Rattle.folder_start.specs.Started.{HasBegun}
use Rattle.server_settings.specs.Settings.{ServerSettings}
use Rattle.volume_store.specs.declared.step.ResumeStep.{ResumeStep}
use Rattle.clock_watch.specs.declared.start.PartnerLink.{PartnerLink}
use Rattle.clock_watch.specs.declared.start.PartnerLink.TheVariants.{None as Unlinked, Linked}
use Rattle.node_daemon.specs.Turning.{Ways, HasTurned, ways}

-- a server has a partner where its settings say an address of the link
abbrev pub pairing_by : {A : Type 0} → Option A → Pairing
pairing_by (Some address) = Paired
pairing_by None = Alone

-- a partner's clock can be asked over a link that has a key
abbrev pub link_by : {A K : Type 0} → Option A → Option K → PartnerLink
link_by (Some address) (Some key) = Linked
link_by (Some address) None = Unlinked
link_by None key = Unlinked

-- turns were made, up to some way
abbrev pub HasRun : {P Line : Type 0} → (gives : Moment → Type 0) → (fails : Type 0) → (Line → Line → Type 0)
    → (Line → P → List ℕ → Line → Type 0) → (transit : ℕ) → Ways Line → CoreState (Arrival P) → Type 0
HasRun {P} {Line} gives fails Listens Sends transit first begun =
    (last : Ways Line) × HasTurned gives fails Listens Sends transit first begun last

-- Before a server begins it meets its partner: it hears it, and says no frame to it but perhaps the last word.
pub data Meets (first : Option Sent) : Option Sent → Type 0 where
  none : Meets first first
  heard : (old new : Option Sent) → Meets first old → MayStand old new → Meets first new
  said : (old new : Option Sent) → Meets first old → SaysOver [] old new → Meets first new

-- A server of these settings began at a moment that a call of the clocks gave, by what its folder's last files lead to;
-- and that server ran, from these ways to its clients and to its partner on.
pub record HasBegunAndRun {P Line : Type 0} (gives : Moment → Type 0) (fails : Type 0) (Listens : Line → Line → Type 0)
    (Sends : Line → P → List ℕ → Line → Type 0) (s : ServerSettings) (renew_floor : ℕ) (pairing : Pairing)
    (step : ResumeStep) (transit : ℕ) (first : Ways Line) : Type 0 where
  pub now : Moment
  pub given : gives now
  pub begun : CoreState (Arrival P)
  pub begins : HasBegun s renew_floor pairing now.reading step begun
  pub ran : HasRun gives fails Listens Sends transit first begun

-- A server of these settings waited until its clock let it begin: meanwhile it may have passed datagrams over, and met its
-- partner. Then it began and ran, over the ways as they were left.
pub record HasServed {P Line : Type 0} (gives : Moment → Type 0) (fails : Type 0) (Listens : Line → Line → Type 0)
    (Sends : Line → P → List ℕ → Line → Type 0) (s : ServerSettings) (renew_floor : ℕ) (pairing : Pairing)
    (step : ResumeStep) (datagrams : Line) : Type 0 where
  pub heard : Line
  pub hears : MayReceive Listens datagrams heard
  pub link : Option Sent
  pub meets : Meets None link
  pub ran : HasBegunAndRun gives fails Listens Sends s renew_floor pairing step s.transit (ways heard link)
