-- Runs of the pair that leave these volumes.
use Rattle.std.specs.Prelude.{◌≡◌, ℕ, ◌+◌, List, ◌∷◌, Some, slice_get}
use Rattle.binding_rules.specs.declared.role.Role.{Role}
use Rattle.journal_lines.specs.declared.event.Event.TheVariants.{Close}
use Rattle.journal_lines.specs.declared.line.Line.{Line}
use Rattle.attribution.specs.Volumes.{volume_at}
use Rattle.attribution.specs.Run.{Step, lines_of}
use Rattle.attribution.specs.Snapshot.{read_of}
use Rattle.joined_runs.specs.Volumes.{SideVolumes, last_lines}

-- among a side's lines these are its volumes from an index on, one after the other
abbrev pub AreVolumesFrom : ℕ → List Line → SideVolumes → Type 0
AreVolumesFrom index all v = (n : ℕ) (lines : List Line) → slice_get (v.first ∷ v.further) n ≡ Some lines
    → lines ≡ volume_at (index + n) all

-- the run leaves these volumes of that side, from the one of their number on, the last of them closed
pub record LeavesAll (run : List Step) (side : Role) (v : SideVolumes) : Type 0 where
  pub index : ℕ
  pub number : v.number ≡ index + 1
  pub each : AreVolumesFrom index (lines_of side run) v
  pub closed : (k : ℕ) × (l : Line) × (slice_get (last_lines v.first v.further) k ≡ Some l) × (l.event ≡ Close)

-- in the lines that were read of a side these are its volumes from their number on, be the last of them closed or not
pub record LeavesAllSoFar (read : Role → ℕ) (run : List Step) (side : Role) (v : SideVolumes) : Type 0 where
  pub index : ℕ
  pub number : v.number ≡ index + 1
  pub each : AreVolumesFrom index (read_of read run side) v
