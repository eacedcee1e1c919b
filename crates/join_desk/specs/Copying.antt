-- What is told of volumes that are copied.
use Rattle.std.specs.Prelude.{◌≡◌, ℕ, max, List, [], ◌∷◌, ◌++◌, codes, Option, Some, None}
use Rattle.std.specs.Fmt.{decimal}
use Rattle.std.specs.declared.path.buf.PathBuf.{PathBuf}
use Rattle.binding_rules.specs.declared.role.Role.{Role}
use Rattle.journal_archive.specs.declared.archive.Archive.{Archive}
use Rattle.journal_archive.specs.declared.outline.FiledVolume.{FiledVolume}
use Rattle.archive_files.specs.declared.cataloguing.Catalogue.{Catalogue}
use Rattle.archive_files.specs.declared.settings_check.SettingsScope.TheVariants.{OfEach}
use Rattle.archive_files.specs.Catalogues.{IsCatalogue}
use Rattle.archive_files.specs.Ties.{AreTied}
use Rattle.archive_desk.specs.declared.command_output.CommandOutput.{CommandOutput}
use Rattle.archive_desk.specs.Failing.{IsRefusal}
use Rattle.archive_desk.specs.Unread.{AllRead}
use Rattle.desk_args.specs.declared.join_args.JoinQuery.{JoinQuery}
use Rattle.volume_spans.specs.declared.span.VolumeSpan.{VolumeSpan}
use Rattle.journal_copies.specs.declared.query.CopyQuery.{CopyQuery}
use Rattle.journal_copies.specs.declared.query.CopyOutcome.{CopyOutcome}
use Rattle.journal_copies.specs.declared.query.CopyOutcome.TheVariants.{Copied, Missing, OtherLines, Refused}
use Rattle.journal_copies.specs.Copying.{IsCopy}
use Rattle.join_desk.specs.Choosing.{first_asked}
use Rattle.joined_rulings.specs.Lacks.{lack_front, no_volume_line, missing_line, refusal_line, IsLackTold}
use Rattle.join_desk.specs.Telling.{shelf_of}

-- up to which volume: the one that is named, but no earlier than the first; where none is named the first alone
abbrev pub last_copied : (first : ℕ) → Option ℕ → ℕ
last_copied first (Some to) = max to first
last_copied first None = first

-- which volumes of these are copied: from the one that is named on, or the first that there is
abbrev pub copied_span : List FiledVolume → JoinQuery → VolumeSpan
copied_span vs q =
    record { first = first_asked vs q.from q.to; last = last_copied (first_asked vs q.from q.to) q.to }

abbrev pub copy_query : List FiledVolume → JoinQuery → (lines : ℕ) → CopyQuery
copy_query vs q lines = record { side = q.side; span = copied_span vs q; lines = lines }

abbrev pub lines_words : List ℕ
lines_words = codes "Lines: there are lines 1 to "

-- the volumes have so many lines
abbrev pub lines_line : Role → ℕ → List ℕ
lines_line side count = lack_front side ++ (lines_words ++ (decimal count ++ 10 ∷ []))

-- the text is given, and standard error has what it has
pub record IsTextTold (passed content : List ℕ) (told : CommandOutput) : Type 0 where
  pub text : told.text.items ≡ content
  pub status : told.status ≡ 0
  pub notes_are : told.notes.items ≡ passed

-- what is told of what comes of a copy, behind the files that are passed over
abbrev pub IsCopyOutcomeTold : {A : Type 0} → List (PathBuf A) → List ℕ → Role → CopyOutcome → CommandOutput → Type 0
IsCopyOutcomeTold names passed side (Copied copied) told = IsTextTold passed copied.text.items told
IsCopyOutcomeTold names passed side (Missing other number) told = IsLackTold passed (missing_line other number) told
IsCopyOutcomeTold names passed side (OtherLines count) told = IsLackTold passed (lines_line side count) told
IsCopyOutcomeTold names passed side (Refused refusal) told = IsRefusal (refusal_line names refusal) told

-- what is told of the volumes of a side; of none that the side has none
abbrev pub IsShelfTold : {A : Type 0} → (had : ℕ → List ℕ → Type 0) → Archive → List (PathBuf A) → List ℕ → JoinQuery
    → (lines : ℕ) → List FiledVolume → CommandOutput → Type 0
IsShelfTold had archive names passed q lines [] told = IsLackTold passed (no_volume_line q.side) told
IsShelfTold had archive names passed q lines (v ∷ vs) told =
    (outcome : CopyOutcome) × IsCopy had archive (copy_query (v ∷ vs) q lines) outcome
    × IsCopyOutcomeTold names passed q.side outcome told

-- What is told of the volumes of a side that so many files have.
pub record IsCopyTold {A : Type 0} (had : ℕ → List ℕ → Type 0) (count : ℕ) (names : List (PathBuf A)) (q : JoinQuery)
    (lines : ℕ) (told : CommandOutput) : Type 0 where
  pub catalogue : Catalogue
  pub is_catalogue : IsCatalogue had count catalogue
  pub tied : AreTied had OfEach catalogue.archive.primary catalogue.archive.secondary
  pub read : AllRead names catalogue.passed_over.items
  pub passed : List ℕ
  pub is_told : IsShelfTold had catalogue.archive names passed q lines (shelf_of q.side catalogue.archive) told
