-- What was read of a folder.
use Rattle.std.specs.Prelude.{◌≡◌, ℕ, List, [], ◌∷◌, map, Ok, Option, Some, None, IfSome}
use Rattle.binding_rules.specs.declared.role.Role.{Role}
use Rattle.journal_lines.specs.declared.line.Journal.{Journal}
use Rattle.disk_model.specs.Disk.{Call, opened}
use Rattle.disk_model.specs.LastFiles.{AreLast}
use Rattle.disk_model.specs.declared.last_files.LastFiles.{LastFiles}
use Rattle.volume_store.specs.Folder.{ResumesAsTold}
use Rattle.volume_store.specs.declared.step.RecoveredFolder.{RecoveredFolder}
use Rattle.volume_store.specs.declared.step.ResumeStep.{ResumeStep}
use Rattle.volume_store.specs.declared.step.ResumeStep.TheVariants.{BeginFirst, GoOn, End, BeginNext}
use Rattle.folder_start.specs.declared.reading.LastVolume.{LastVolume}

-- the last volume's file, if there is one, was opened and held this content
abbrev pub IsOpened : {D : Type 0} → (D → List Call) → Option (LastVolume D) → Type 0
IsOpened calls last = IfSome last (λ v. calls v.file ≡ opened v.content.items ∷ [])

-- the files of a folder may have these contents, by what was read of the last ones
abbrev pub may_have : LastFiles → List (List ℕ) → Type 0
may_have files contents = AreLast files.unread (map (λ content. content.items) files.contents.items) contents

-- what the last files of a side's folder lead to
abbrev pub leads_to : Role → LastFiles → RecoveredFolder → Type 0
leads_to role files found =
    (contents : List (List ℕ)) → may_have files contents → ResumesAsTold role contents (Ok found)

-- the book that a start goes on with, or behind which it begins the next
abbrev pub book_in : ResumeStep → Option Journal
book_in BeginFirst = None
book_in (GoOn j) = Some j
book_in (End j) = Some j
book_in (BeginNext j) = Some j
