-- What is answered over files.
use Rattle.std.specs.Prelude.{◌≡◌, ℕ, List, ◌++◌}
use Rattle.std.specs.declared.path.buf.PathBuf.{PathBuf}
use Rattle.access_records.specs.Spelling.{TextValue}
use Rattle.journal_archive.specs.declared.archive.Archive.{Archive}
use Rattle.archive_files.specs.declared.cataloguing.Catalogue.{Catalogue}
use Rattle.archive_files.specs.Catalogues.{IsCatalogue}
use Rattle.archive_files.specs.declared.settings_check.SettingsScope.{SettingsScope}
use Rattle.archive_files.specs.declared.settings_check.SettingsScope.TheVariants.{OfBoth, OfEach}
use Rattle.archive_files.specs.Ties.{AreTied}
use Rattle.desk_args.specs.declared.settings.SettingsCheck.{SettingsCheck}
use Rattle.desk_args.specs.declared.settings.SettingsCheck.TheVariants.{MustAgree, MayDiffer}
use Rattle.archive_desk.specs.declared.answering.ArchiveQuestion.{ArchiveQuestion}
use Rattle.archive_desk.specs.declared.answering.ArchiveQuestion.TheVariants.{Who, Find, Timeline, Audit, Batch}
use Rattle.archive_desk.specs.declared.answering.ArchiveAnswer.{ArchiveAnswer}
use Rattle.archive_desk.specs.declared.answering.ArchiveAnswer.TheVariants.{Who as WhoIs, Find as Found}
use Rattle.archive_desk.specs.declared.answering.ArchiveAnswer.TheVariants.{Timeline as Lines, Judged}
use Rattle.archive_desk.specs.declared.answering.FilesAnswer.{FilesAnswer}
use Rattle.archive_desk.specs.declared.command_output.CommandOutput.{CommandOutput}
use Rattle.archive_desk.specs.CommandOutputs.{said_of, nothing}
use Rattle.archive_desk.specs.Who.{IsWho}
use Rattle.archive_desk.specs.Stretches.{IsEvidence}
use Rattle.archive_desk.specs.Newest.{IsNewest}
use Rattle.archive_desk.specs.Certificates.{IsAudit, IsBatch, IsJudgedTold}
use Rattle.archive_desk.specs.Telling.{IsWhoTold, AreSaid, IsTimelineTold}
use Rattle.archive_desk.specs.Unread.{AllRead}

-- a name is given where the settings of all volumes agree, unless the two servers' may differ
abbrev pub agreement_for : SettingsCheck → SettingsScope
agreement_for MustAgree = OfBoth
agreement_for MayDiffer = OfEach

-- which volumes' settings agree wherever the question is answered
abbrev pub agreement_of : ArchiveQuestion → SettingsScope
agreement_of (Who q settings) = agreement_for settings
agreement_of _ = OfEach

-- by the volumes of an archive, of the kind that is asked for
abbrev pub IsAnswerOver : (had : ℕ → List ℕ → Type 0) → (Says : ℕ → TextValue → Type 0) → Archive → ArchiveQuestion
    → ArchiveAnswer → Type 0
IsAnswerOver had Says archive (Who q settings) (WhoIs answer) = IsWho had Says archive q settings answer
IsAnswerOver had Says archive (Find q) (Found answer) =
    (answer.query ≡ q) × IsEvidence had archive q answer.stretches.items
IsAnswerOver had Says archive Timeline (Lines answer) = IsNewest had archive answer.reply
IsAnswerOver had Says archive (Audit text skew transit) (Judged answer) =
    IsAudit had archive text.now (record { skew = skew; transit = transit }) answer
IsAnswerOver had Says archive (Batch texts skew transit workers) (Judged answer) =
    IsBatch had archive texts.now (record { skew = skew; transit = transit }) answer
IsAnswerOver had Says archive _ _ = ⊥

-- by the volumes that so many files are, none of which is unknown since its file can't be read, and with the other files
pub record IsFilesAnswer {A : Type 0} (had : ℕ → List ℕ → Type 0) (Says : ℕ → TextValue → Type 0) (count : ℕ)
    (names : List (PathBuf A)) (q : ArchiveQuestion) (answer : FilesAnswer) : Type 0 where
  pub catalogue : Catalogue
  pub is_catalogue : IsCatalogue had count catalogue
  pub tied : AreTied had (agreement_of q) catalogue.archive.primary catalogue.archive.secondary
  pub read : AllRead names catalogue.passed_over.items
  pub passed : answer.passed_over ≡ catalogue.passed_over
  pub is_answer : IsAnswerOver had Says catalogue.archive q answer.answer

-- ---- how it is written

abbrev pub IsAnswerTold : {A : Type 0} → List (PathBuf A) → ArchiveAnswer → CommandOutput → Type 0
IsAnswerTold names (WhoIs answer) told = IsWhoTold names answer told
IsAnswerTold names (Found answer) told = AreSaid names answer.stretches.items nothing (said_of told)
IsAnswerTold names (Lines answer) told = IsTimelineTold names answer.reply told
IsAnswerTold names (Judged answer) told = IsJudgedTold names answer told

-- standard error has something in front of that, of the other files
pub record IsTold {A : Type 0} (names : List (PathBuf A)) (answer : FilesAnswer) (told : CommandOutput) : Type 0 where
  pub alone : CommandOutput
  pub is_told : IsAnswerTold names answer.answer alone
  pub text : told.text ≡ alone.text
  pub status : told.status ≡ alone.status
  pub passed : List ℕ
  pub notes : told.notes.items ≡ passed ++ alone.notes.items
