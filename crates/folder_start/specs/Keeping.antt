-- With which volumes a server starts over its folder.
use Rattle.std.specs.Prelude.{◌≡◌, ⊤, ℕ, List, [], map}
use Rattle.binding_rules.specs.declared.role.Role.{Role}
use Rattle.journal_lines.specs.declared.line.Journal.{Journal}
use Rattle.journal_lines.specs.declared.line.Line.{Line}
use Rattle.disk_model.specs.Disk.{Call}
use Rattle.disk_model.specs.Names.{NameCall}
use Rattle.order_book.specs.Replayed.{with_line}
use Rattle.open_volume.specs.declared.volume.VolumeSoFar.{VolumeSoFar}
use Rattle.open_volume.specs.Spelling.{text_lines}
use Rattle.volume_store.specs.Folder.{AreVolumesSoFar, AreContents}
use Rattle.volume_store.specs.Volumes.{going_on}
use Rattle.server_start.specs.declared.starting.StartAction.{StartAction}
use Rattle.server_start.specs.declared.starting.StartAction.TheVariants.{First, GoOn, End, Next}
use Rattle.server_core.specs.VolumeWriters.{WriterState}
use Rattle.server_core.specs.Beginning.{HasBook, HasNextBook}
use Rattle.server_core.specs.Servers.{AllLeaveLines}
use Rattle.server_core.specs.Starting.{StartsServers}

-- What stands on the disk behind what a server does at its start, in a folder of so many volumes: a first volume; the
-- one that goes on, before the line that it lacks; or one behind a closed volume, which has ended.
abbrev pub HasDone : Role → StartAction → ℕ → List NameCall → WriterState → Type 0
HasDone role First volumes names v = (j : Journal) × AreVolumesSoFar role [] (going_on j) × HasBook j names 1 v
HasDone role (GoOn k) volumes names v = (j : Journal) (l : Line) → k ≡ with_line j l → HasBook j names volumes v
HasDone role (End j) volumes names v = HasNextBook j volumes names v
HasDone role (Next j) volumes names v = HasNextBook j volumes names v

-- Whatever the files hold that were read: where these are what is left of a server's volumes, and each earlier one
-- stands in its file, a server starts with these volumes.
abbrev pub StartsWith : (List (List ℕ) → Type 0) → Role → List NameCall → WriterState → Type 0
StartsWith may_have role names v = (contents : List (List ℕ)) (ended : List VolumeSoFar) (files : List (List Call))
    (last : VolumeSoFar) (count : ℕ)
    → may_have contents → AreVolumesSoFar role ended last → AreContents ended last count contents
    → AllLeaveLines files (map text_lines ended) → StartsServers role ended files last count names v
