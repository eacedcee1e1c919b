-- That the volumes in a daemon's folder are one server's, turn after turn, and at whatever moment the power goes.
use Rattle.std.specs.Prelude.{ℕ, List, [], ◌∷◌, ◌++◌}
use Rattle.binding_rules.specs.declared.role.Role.{Role}
use Rattle.journal_lines.specs.declared.line.Journal.{Journal}
use Rattle.disk_model.specs.Disk.{Call}
use Rattle.open_volume.specs.declared.volume.VolumeSoFar.{VolumeSoFar}
use Rattle.volume_store.specs.Volumes.{ended_volume}
use Rattle.server_core.specs.ServerStates.{CoreState}
use Rattle.server_core.specs.Servers.{IsServers}
use Rattle.server_core.specs.Laws.{StaysServers, RollsServers}
use Rattle.server_clocks.specs.declared.clocks.Moment.{Moment}
use Rattle.daemon_endpoints.specs.declared.arrival.Arrival.{Arrival}
use Rattle.node_daemon.specs.Turning.{Ways, IsTurn, SinceThen}

-- What a turn keeps of a server's volumes, from where it has heard, over what it has begun, to where its lines are put:
-- the open volume goes on, or it ends, and the next one goes on behind it. Each says what a loss of power leaves at
-- each moment meanwhile (specs/Laws of server_laws).
pub data Keeps {P : Type 0} (role : Role) (earlier : List VolumeSoFar) (files : List (List Call)) (j : Journal)
    (heard begun put : CoreState P) : List VolumeSoFar → List (List Call) → Type 0 where
  goes_on : StaysServers role earlier files j begun.names begun.volume put.volume
      → Keeps role earlier files j heard begun put earlier files
  rolls : (closed : Journal) (ended : List Call)
      → RollsServers role earlier files j closed ended heard.names begun.names heard.volume begun.volume
      → StaysServers role (earlier ++ ended_volume closed ∷ []) (files ++ ended ∷ []) begun.volume.served.journal
      begun.names begun.volume put.volume
      → Keeps role earlier files j heard begun put (earlier ++ ended_volume closed ∷ []) (files ++ ended ∷ [])

-- Turns, one after the other, each of which keeps the server's volumes: which of them have ended by now, in which
-- files, and the journal of the open one, as far as it is in its file.
pub data Lasts {P Line : Type 0} (gives : Moment → Type 0) (fails : Type 0) (Listens : Line → Line → Type 0)
    (Sends : Line → P → List ℕ → Line → Type 0) (transit : ℕ) (first : Ways Line) (begun : CoreState (Arrival P))
    (role : Role) (earlier : List VolumeSoFar) (files : List (List Call)) (j : Journal)
    : Ways Line → CoreState (Arrival P) → List VolumeSoFar → List (List Call) → Journal → Type 0 where
  at_first : Lasts gives fails Listens Sends transit first begun role earlier files j first begun earlier files j
  one_more : (way : Ways Line) (old : CoreState (Arrival P)) (ended : List VolumeSoFar) (settled : List (List Call))
      (k : Journal) (next : Ways Line) (new : CoreState (Arrival P)) (ended_now : List VolumeSoFar)
      (settled_now : List (List Call))
      → Lasts gives fails Listens Sends transit first begun role earlier files j way old ended settled k
      → (turn : IsTurn gives fails Listens Sends transit way old next new)
      → Keeps role ended settled k turn.ready turn.begun turn.tells.settled ended_now settled_now
      → Lasts gives fails Listens Sends transit first begun role earlier files j next new ended_now settled_now
      turn.tells.settled.volume.served.journal

-- The volumes of a daemon that began with a server's are that server's: turns were made that kept them, and since the
-- last one nothing was put to the disk.
pub record HasLasted {P Line : Type 0} (gives : Moment → Type 0) (fails : Type 0) (Listens : Line → Line → Type 0)
    (Sends : Line → P → List ℕ → Line → Type 0) (transit : ℕ) (first : Ways Line) (begun : CoreState (Arrival P))
    (last : Ways Line) (role : Role) (earlier : List VolumeSoFar) (files : List (List Call)) (j : Journal)
    : Type 0 where
  pub way : Ways Line
  pub reached : CoreState (Arrival P)
  pub ended : List VolumeSoFar
  pub settled : List (List Call)
  pub journal : Journal
  pub lasts : Lasts gives fails Listens Sends transit first begun role earlier files j way reached ended settled journal
  pub is : IsServers role ended settled journal reached.names reached.volume
  pub since : SinceThen Listens way last
