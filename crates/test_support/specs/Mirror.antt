-- A file's state as data, and the file of the model that it stands for.
use Rattle.std.specs.Prelude.{◌≡◌, ℕ, true, [], ◌∷◌, slice_index}
use Rattle.disk_model.specs.Disk.{Call, File, after_call, StandsIn}
use Rattle.test_support.specs.declared.state.FileState.{FileState}

-- the file of which contents are drawn
abbrev pub file_of : FileState → File
file_of s = record { written = s.written.items; synced = s.synced; under = s.under.items ∷ []; is_usable = true }

-- The state is that of the file, but that it has only some of what lies under it.
pub record Mirrors (s : FileState) (f : File) : Type 0 where
  pub written : s.written.items ≡ f.written
  pub synced : s.synced ≡ f.synced
  pub under : (place : ℕ) → StandsIn f.under place (slice_index s.under.items place)

-- the new state is that of the file after the call, whichever file the old one was of
abbrev pub FollowsCall : Call → FileState → FileState → Type 0
FollowsCall call old new = (f : File) → Mirrors old f → Mirrors new (after_call call f)
