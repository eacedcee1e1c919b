-- With which volumes a server starts, of those that its folder has.
use Rattle.std.specs.Prelude.{◌≡◌, ◌⊎◌, ℕ, List, [], ◌∷◌, ◌++◌, map}
use Rattle.binding_rules.specs.declared.role.Role.{Role}
use Rattle.journal_lines.specs.declared.line.Journal.{Journal}
use Rattle.disk_model.specs.Disk.{Call}
use Rattle.disk_model.specs.Names.{NameCall}
use Rattle.order_book.specs.NextBook.{MayRoll}
use Rattle.open_volume.specs.declared.volume.VolumeSoFar.{VolumeSoFar}
use Rattle.open_volume.specs.Spelling.{text_lines}
use Rattle.volume_store.specs.Finding.{left_of}
use Rattle.volume_store.specs.declared.finding.RecoveredBook.TheVariants.{Unpublished, Open, Closed, Ended}
use Rattle.volume_store.specs.Folder.{AreVolumesSoFar, goes_on_with}
use Rattle.volume_store.specs.declared.step.RecoveredFolder.{RecoveredFolder}
use Rattle.volume_store.specs.declared.step.ResumeStep.{ResumeStep}
use Rattle.volume_store.specs.declared.step.ResumeStep.TheVariants.{BeginFirst, GoOn, End, BeginNext}
use Rattle.volume_store.specs.Volumes.{going_on, ended_volume}
use Rattle.server_core.specs.VolumeWriters.{WriterState}
use Rattle.server_core.specs.Beginning.{HasBook, HasNextBook}
use Rattle.server_core.specs.Servers.{AllLeaveLines, IsServers}

-- What stands on the disk behind a start, by the step to which so many volumes led: a first volume; the one that goes
-- on, as it was found; or a next one behind one that has ended.
abbrev pub HasStarted : Role → ResumeStep → ℕ → List NameCall → WriterState → Type 0
HasStarted role BeginFirst volumes names v =
    (j : Journal) × AreVolumesSoFar role [] (going_on j) × HasBook j names 1 v
HasStarted role (GoOn j) volumes names v = HasBook j names volumes v
HasStarted role (End j) volumes names v = MayRoll j × HasNextBook j volumes names v
HasStarted role (BeginNext j) volumes names v = MayRoll j × HasNextBook j volumes names v

-- A server's volumes that have ended, and the first so many lines of the last one, which may not be there: with these a
-- server of the same volumes starts. Where nobody was told of the last one, it may be another one that begins.
pub data StartsServers (role : Role) (ended : List VolumeSoFar) (files : List (List Call)) (last : VolumeSoFar)
    (count : ℕ) (names : List NameCall) (v : WriterState) : Type 0 where
  begins : (j : Journal) → ended ≡ [] → left_of count last ≡ Unpublished → IsServers role [] [] j names v
      → StartsServers role ended files last count names v
  begins_behind : (next : Journal) → left_of count last ≡ Unpublished → IsServers role ended files next names v
      → StartsServers role ended files last count names v
  goes_on : (j : Journal) → left_of count last ≡ Open j → IsServers role ended files j names v
      → StartsServers role ended files last count names v
  follows : (j next : Journal) (file : List Call)
      → (left_of count last ≡ Closed j) ⊎ (left_of count last ≡ Ended j)
      → IsServers role (ended ++ ended_volume j ∷ []) (files ++ file ∷ []) next names v
      → StartsServers role ended files last count names v

-- A start that did what its folder led to begins with the server's volumes.
abbrev pub StartsKeep : Type 0
StartsKeep = (role : Role) (ended : List VolumeSoFar) (files : List (List Call)) (last : VolumeSoFar) (count : ℕ)
    (found : RecoveredFolder) (names : List NameCall) (v : WriterState)
    → AreVolumesSoFar role ended last → AllLeaveLines files (map text_lines ended)
    → found ≡ goes_on_with ended (left_of count last) → HasStarted role found.step found.volumes names v
    → StartsServers role ended files last count names v
