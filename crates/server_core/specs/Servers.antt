-- The volumes of a server that runs, in its folder.
use Rattle.std.specs.Prelude.{◌≡◌, ⊤, ℕ, ◌+◌, List, [], ◌∷◌, ◌++◌, length, map, take}
use Rattle.binding_rules.specs.declared.role.Role.{Role}
use Rattle.journal_lines.specs.declared.line.Journal.{Journal}
use Rattle.disk_model.specs.Disk.{Call, AllLeft}
use Rattle.disk_model.specs.Lines.{recovered}
use Rattle.disk_model.specs.Names.{NameCall, names_after, AreSettled}
use Rattle.disk_model.specs.Volumes.{HasSettled, IsFolderLeft}
use Rattle.open_volume.specs.declared.volume.VolumeSoFar.{VolumeSoFar}
use Rattle.open_volume.specs.Spelling.{text_lines}
use Rattle.volume_store.specs.Folder.{AreVolumesSoFar}
use Rattle.volume_store.specs.Laws.{AreServersContents}
use Rattle.server_core.specs.VolumeWriters.{WriterState}
use Rattle.server_core.specs.Going.{so_far}

-- whatever a loss of power leaves of the file are these lines
abbrev pub LeavesLines : List Call → List (List ℕ) → Type 0
LeavesLines file lines = AllLeft (λ content. recovered content ≡ lines) file

-- each file leaves the lines of its volume
abbrev pub AllLeaveLines : List (List Call) → List (List (List ℕ)) → Type 0
AllLeaveLines [] [] = ⊤
AllLeaveLines (file ∷ files) (lines ∷ volumes) = LeavesLines file lines × AllLeaveLines files volumes
AllLeaveLines [] (lines ∷ volumes) = ⊥
AllLeaveLines (file ∷ files) [] = ⊥

-- The earlier volumes and the open one, as far as it is in its file, are one server's. Whatever a loss of power leaves,
-- each earlier one stands in its file; the open one is on the disk, and so are the names of the files.
pub record IsServers
    (role : Role) (earlier : List VolumeSoFar) (files : List (List Call)) (j : Journal)
    (names : List NameCall) (v : WriterState) : Type 0 where
  pub are : AreVolumesSoFar role earlier (so_far j)
  pub ended : AllLeaveLines files (map text_lines earlier)
  pub has : HasSettled v.calls (text_lines (so_far j))
  pub kept : v.kept ≡ length j.lines
  pub named : AreSettled names
  pub count : (names_after names).files ≡ length earlier + 1

-- the other journal goes on with all lines of this one
abbrev pub IsFront : Journal → Journal → Type 0
IsFront j k = j ≡ record k { lines = take (length j.lines) k.lines }

-- at each moment from after the calls `old` on, up to now
pub data AtEachMoment {C : Type 0} (P : List C → Type 0) (old : List C) : List C → Type 0 where
  at_once : P old → AtEachMoment P old old
  and_then : (call : C) (calls : List C) → AtEachMoment P old calls → P (call ∷ calls)
      → AtEachMoment P old (call ∷ calls)

-- Whatever a loss of power leaves now are contents of a server's folder: of these volumes that have ended, and of one
-- more, of which there are the first so many lines, at least so many.
abbrev pub LeavesServers : Role → List VolumeSoFar → VolumeSoFar → ℕ → List NameCall → List (List Call) → List Call
    → Type 0
LeavesServers role earlier last least names files file =
    (contents : List (List ℕ)) → IsFolderLeft (names_after names) (files ++ file ∷ []) contents
    → AreServersContents role earlier last least contents
