-- What a settle and a roll make of a server.
use Rattle.std.specs.Prelude.{◌≡◌, ℕ, ◌+◌, List, [], length}
use Rattle.std.specs.List.{AllByRecursion}
use Rattle.disk_model.specs.Later.{LeavesFirst}
use Rattle.open_volume.specs.Spelling.{text_lines}
use Rattle.volume_store.specs.Volumes.{going_on, HasVolume}
use Rattle.server_core.specs.Served.{receipts_in}
use Rattle.server_core.specs.declared.committed_output.HeldAnswer.{HeldAnswer}
use Rattle.server_core.specs.VolumeWriters.{WriterState}
use Rattle.server_core.specs.Going.{CanContinue}
use Rattle.server_core.specs.Rolling.{Rolls}
use Rattle.server_core.specs.Owing.{IsOwed}
use Rattle.server_core.specs.ServerStates.{CoreState}

-- All lines of the book are in its file and on the disk; meanwhile a loss of power left the first so many of them, and
-- no fewer than before.
pub record IsPut (old new : WriterState) : Type 0 where
  pub goes_on : CanContinue old
  pub served : new.served ≡ old.served
  pub volume : HasVolume new.calls (going_on new.served.journal)
  pub all : new.kept ≡ length new.served.journal.lines
  pub any_moment : LeavesFirst (text_lines (going_on old.served.journal)) (old.kept + 1) old.calls new.calls

-- All lines were put to the disk. These answers are what was held back: each tells a client's message what receipts of
-- that book say.
pub record IsCommitted {P : Type 0} (old : CoreState P) (answers : List (HeldAnswer P)) (new : CoreState P) : Type 0 where
  pub put : IsPut old.volume new.volume
  pub names : new.names ≡ old.names
  pub all : answers ≡ old.held
  pub none : new.held ≡ []
  pub owed : AllByRecursion (λ (h : HeldAnswer P). IsOwed old.own old.terms (receipts_in old.volume.served) h.answer)
      answers

-- The book was closed, its volume ended, and the next one begun behind it; what is held back is the same.
pub record IsRolled {P : Type 0} (old new : CoreState P) : Type 0 where
  pub now : ℕ
  pub rolls : Rolls old.volume old.names now new.volume new.names
  pub own : new.own ≡ old.own
  pub held : new.held ≡ old.held
