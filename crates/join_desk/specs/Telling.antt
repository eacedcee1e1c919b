-- What is told of volumes that are put together.
use Rattle.std.specs.Prelude.{◌≡◌, ℕ, List, [], ◌∷◌, ◌++◌, codes, take}
use Rattle.std.specs.List.{flat_map}
use Rattle.std.specs.declared.path.buf.PathBuf.{PathBuf}
use Rattle.binding_rules.specs.declared.role.Role.{Role}
use Rattle.binding_rules.specs.declared.role.Role.TheVariants.{Primary, Secondary}
use Rattle.journal_archive.specs.declared.outline.FiledVolume.{FiledVolume}
use Rattle.journal_archive.specs.declared.archive.Archive.{Archive}
use Rattle.archive_files.specs.declared.cataloguing.Catalogue.{Catalogue}
use Rattle.archive_files.specs.declared.settings_check.SettingsScope.TheVariants.{OfEach}
use Rattle.archive_files.specs.Catalogues.{IsCatalogue}
use Rattle.archive_files.specs.Ties.{AreTied}
use Rattle.archive_desk.specs.declared.command_output.CommandOutput.{CommandOutput}
use Rattle.archive_desk.specs.Failing.{file_word, IsRefusal}
use Rattle.archive_desk.specs.Unread.{AllRead}
use Rattle.desk_args.specs.declared.join_args.JoinQuery.{JoinQuery}
use Rattle.join_desk.specs.declared.choosing.VolumeChoice.{VolumeChoice}
use Rattle.join_desk.specs.declared.choosing.VolumeChoice.TheVariants.{Chosen, NoVolume, Missing}
use Rattle.join_desk.specs.declared.outcome.JoinOutcome.{JoinOutcome}
use Rattle.join_desk.specs.declared.outcome.JoinOutcome.TheVariants.{Joined, Refused}
use Rattle.joined_rulings.specs.Lacks.{no_volume_line, missing_line, refusal_line, IsLackTold}
use Rattle.join_desk.specs.Choosing.{IsChoice}
use Rattle.join_desk.specs.Joined.{IsOutcome}
use Rattle.join_desk.specs.Text.{text_of}

-- the names of volumes' files, each behind a blank
abbrev pub file_words : {A : Type 0} → List (PathBuf A) → List FiledVolume → List ℕ
file_words names taken = flat_map (λ (v : FiledVolume). file_word names v.file) taken

-- the files that were taken, in the order of their numbers
abbrev pub taken_line : {A : Type 0} → List (PathBuf A) → List FiledVolume → List ℕ
taken_line names taken = codes "journals" ++ (file_words names taken ++ 10 ∷ [])

-- the journal's text is given, and standard error says last of which files it is
pub record IsJournalTold (passed content line : List ℕ) (told : CommandOutput) : Type 0 where
  pub text : told.text.items ≡ content
  pub status : told.status ≡ 0
  pub notes : told.notes.items ≡ passed ++ line

-- what is told of what comes of chosen volumes, behind the files that are passed over
abbrev pub IsOutcomeTold : {A : Type 0} → List (PathBuf A) → List ℕ → List FiledVolume → JoinOutcome → CommandOutput → Type 0
IsOutcomeTold names passed chosen (Joined journal count) told =
    IsJournalTold passed (text_of journal) (taken_line names (take count chosen)) told
IsOutcomeTold names passed chosen (Refused refusal) told = IsRefusal (refusal_line names refusal) told

-- what is told of chosen volumes; of none that the side has none
abbrev pub IsChosenTold : {A : Type 0} → (had : ℕ → List ℕ → Type 0) → List (PathBuf A) → List ℕ → Role → List FiledVolume
    → CommandOutput → Type 0
IsChosenTold had names passed side [] told = IsLackTold passed (no_volume_line side) told
IsChosenTold had names passed side (f ∷ fs) told =
    (outcome : JoinOutcome) × IsOutcome had (f ∷ fs) outcome × IsOutcomeTold names passed (f ∷ fs) outcome told

abbrev pub IsChoiceTold : {A : Type 0} → (had : ℕ → List ℕ → Type 0) → List (PathBuf A) → List ℕ → Role → VolumeChoice → CommandOutput
    → Type 0
IsChoiceTold had names passed side NoVolume told = IsLackTold passed (no_volume_line side) told
IsChoiceTold had names passed side (Missing number) told = IsLackTold passed (missing_line side number) told
IsChoiceTold had names passed side (Chosen chosen) told = IsChosenTold had names passed side chosen.items told

-- the volumes of a side
abbrev pub shelf_of : Role → Archive → List FiledVolume
shelf_of Primary archive = archive.primary
shelf_of Secondary archive = archive.secondary

-- What is told of the volumes of a side that so many files have.
pub record IsJoinTold {A : Type 0} (had : ℕ → List ℕ → Type 0) (count : ℕ) (names : List (PathBuf A)) (q : JoinQuery)
    (told : CommandOutput) : Type 0 where
  pub catalogue : Catalogue
  pub is_catalogue : IsCatalogue had count catalogue
  pub tied : AreTied had OfEach catalogue.archive.primary catalogue.archive.secondary
  pub read : AllRead names catalogue.passed_over.items
  pub choice : VolumeChoice
  pub is_choice : IsChoice (shelf_of q.side catalogue.archive) q.from q.to choice
  pub passed : List ℕ
  pub is_told : IsChoiceTold had names passed q.side choice told
