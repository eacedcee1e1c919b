-- What may happen while a daemon hears.
use Rattle.std.specs.Prelude.{◌≡◌, List, ◌++◌}
use Rattle.std.specs.List.{AllByRecursion}
use Rattle.server_clocks.specs.declared.clocks.Moment.{Moment}
use Rattle.server_core.specs.ServerStates.{CoreState}
use Rattle.server_core.specs.declared.committed_output.HeldAnswer.{HeldAnswer}
use Rattle.daemon_endpoints.specs.declared.arrival.Arrival.{Arrival}

-- Datagrams may have come, and none was sent: Listens says of a way to those who send them, before and behind a call,
-- that one may have come.
pub data MayReceive {Line : Type 0} (Listens : Line → Line → Type 0) (first : Line) : Line → Type 0 where
  nothing : MayReceive Listens first first
  more : (old new : Line) → MayReceive Listens first old → Listens old new → MayReceive Listens first new

-- Nothing was put to the disk, and nothing more is held back for clients: the book may have lines that its file lacks.
pub record HasSameFiles {P : Type 0} (old new : CoreState P) : Type 0 where
  pub own : new.own ≡ old.own
  pub names : new.names ≡ old.names
  pub calls : new.volume.calls ≡ old.volume.calls
  pub kept : new.volume.kept ≡ old.volume.kept
  pub held : new.held ≡ old.held

-- An answer is held back for what was heard at a moment that a call of the clocks gave: its orders were done at that
-- moment's reading.
abbrev pub IsHeardNow : {P : Type 0} → (gives : Moment → Type 0) → HeldAnswer (Arrival P) → Type 0
IsHeardNow gives h = gives h.answer.peer.heard × (h.read ≡ h.answer.peer.heard.reading)

-- Nothing was put to the disk; meanwhile clients were heard, each when the clocks gave a moment, and answers to them may
-- be held back behind those before.
pub record HasHeard {P : Type 0} (gives : Moment → Type 0) (old new : CoreState (Arrival P)) : Type 0 where
  pub own : new.own ≡ old.own
  pub names : new.names ≡ old.names
  pub calls : new.volume.calls ≡ old.volume.calls
  pub kept : new.volume.kept ≡ old.volume.kept
  pub added : List (HeldAnswer (Arrival P))
  pub held : new.held ≡ old.held ++ added
  pub now : AllByRecursion (IsHeardNow gives) added
