-- What is told of a question who held a prefix, over the volumes that files are.
use Rattle.std.specs.Prelude.{◌≡◌, ℕ, List, [], Some, MatchOption, Ok}
use Rattle.std.specs.declared.path.buf.PathBuf.{PathBuf}
use Rattle.binding_rules.specs.declared.role.Role.{Role}
use Rattle.access_records.specs.Spelling.{TextValue}
use Rattle.journal_archive.specs.declared.archive.Archive.{Archive}
use Rattle.journal_archive.specs.declared.covering.CoverageGap.{CoverageGap}
use Rattle.journal_archive.specs.declared.pair_lookup.PairLookup.TheVariants.{Lacking as IsLacking}
use Rattle.journal_archive.specs.declared.pair_lookup.VolumePair.{VolumePair}
use Rattle.journal_archive.specs.PairLookups.{IsPairLookup}
use Rattle.archive_files.specs.declared.cataloguing.Catalogue.{Catalogue}
use Rattle.archive_files.specs.declared.settings_check.SettingsScope.{SettingsScope}
use Rattle.archive_files.specs.declared.settings_check.SettingsScope.TheVariants.{OfBoth, OfEach}
use Rattle.archive_files.specs.Catalogues.{IsCatalogue}
use Rattle.archive_files.specs.Ties.{AreTied}
use Rattle.plain_search.specs.declared.query.HolderQuery.{HolderQuery}
use Rattle.holder_answers.specs.declared.answer.HolderAnswer.{HolderAnswer}
use Rattle.holder_answers.specs.declared.answer.HolderAnswer.TheVariants.{Held, Refused as RefusedAnswer, NotNamed, TooLong}
use Rattle.desk_args.specs.declared.settings.SettingsCheck.{SettingsCheck}
use Rattle.desk_args.specs.declared.settings.SettingsCheck.TheVariants.{MustAgree, MayDiffer}
use Rattle.volume_spans.specs.declared.span.SpanPair.{SpanPair}
use Rattle.joined_answers.specs.declared.answer.SpannedAnswer.{SpannedAnswer}
use Rattle.joined_answers.specs.declared.widening.SpanReply.{SpanReply}
use Rattle.joined_answers.specs.declared.widening.SpanReply.TheVariants.{Answered, Lacking, Refused}
use Rattle.joined_answers.specs.Widening.{IsReply, IsOverSpans}
use Rattle.archive_desk.specs.declared.command_output.CommandOutput.{CommandOutput}
use Rattle.archive_desk.specs.Unread.{AllRead}
use Rattle.archive_desk.specs.Who.{IsAccessOver}
use Rattle.desk_reports.specs.declared.style.ReportSource.{ReportSource}
use Rattle.desk_reports.specs.declared.style.ReportStyle.{ReportStyle}
use Rattle.desk_reports.specs.Behind.{IsBehindNotes, files_note}
use Rattle.desk_reports.specs.Told.{IsReplyOver}
use Rattle.desk_reports.specs.Unanswered.{IsHolderLackTold}

-- what access records say of the grants that show a holder; nothing where nobody is named
abbrev pub IsHolderAccess : (Says : ℕ → TextValue → Type 0) → VolumePair → SpanPair → HolderAnswer → List ℕ → Type 0
IsHolderAccess Says pair spans (Held c) text = IsAccessOver Says pair spans c text
IsHolderAccess Says pair spans (RefusedAnswer ruling) text = text ≡ []
IsHolderAccess Says pair spans (NotNamed none) text = text ≡ []
IsHolderAccess Says pair spans (TooLong none) text = text ≡ []

-- the two journals that these volumes show, which of them has each line, and what is said beside the last ones
pub record IsAnswerSource (Says : ℕ → TextValue → Type 0) (a : SpannedAnswer) (settings : SettingsCheck)
    (source : ReportSource) : Type 0 where
  pub primary : source.pair.now.primary ≡ Ok a.shown.primary
  pub secondary : source.pair.now.secondary ≡ Ok a.shown.secondary
  pub volumes : source.volumes ≡ Some a.spans
  pub origins : MatchOption source.origins ⊥ (λ origins. origins.now ≡ a.origins)
  pub access : IsHolderAccess Says a.pair a.spans a.answer source.access.now
  pub rule : source.settings ≡ settings

-- a report on an answer over spans of volumes, which are those that it names, behind a note that names them
pub record IsSpannedReport {A : Type 0} (names : List (PathBuf A)) (Says : ℕ → TextValue → Type 0) (a : SpannedAnswer)
    (q : HolderQuery) (settings : SettingsCheck) (style : ReportStyle) (told : CommandOutput) : Type 0 where
  pub source : ReportSource
  pub is_source : IsAnswerSource Says a settings source
  pub core : CommandOutput
  pub reply : IsReplyOver a.shown.primary a.shown.secondary source q a.answer style core
  pub told_so : IsBehindNotes (files_note names a.pair a.spans) core told

-- which side lacks the moment in the archive, and why
abbrev pub IsLackReport : Archive → HolderQuery → ReportStyle → CommandOutput → Type 0
IsLackReport archive q style told =
    (side : Role) × (lack : CoverageGap)
    × IsPairLookup archive.primary archive.secondary q.skew q.transit q.at (IsLacking side lack)
    × IsHolderLackTold style.form q side lack told

-- An answer over volumes that were read, of which whoever is named held the prefix (joined_answers, named_is_true), and a
-- report on it; or what is lacking: also where the two volumes of a roll aren't one journal.
abbrev pub IsReportOfReply : {A : Type 0} → List (PathBuf A) → (had : ℕ → List ℕ → Type 0)
    → (Says : ℕ → TextValue → Type 0) → Archive → HolderQuery → SettingsCheck → ReportStyle → SpanReply → CommandOutput
    → Type 0
IsReportOfReply names had Says archive q settings style (Answered a) told =
    IsOverSpans had archive q settings a × IsSpannedReport names Says a q settings style told
IsReportOfReply names had Says archive q settings style (Lacking side lack) told =
    IsHolderLackTold style.form q side lack told
IsReportOfReply names had Says archive q settings style (Refused refusal) told = IsLackReport archive q style told

abbrev pub IsHolderReport : {A : Type 0} → List (PathBuf A) → (had : ℕ → List ℕ → Type 0)
    → (Says : ℕ → TextValue → Type 0) → Archive → HolderQuery → SettingsCheck → ReportStyle → CommandOutput → Type 0
IsHolderReport names had Says archive q settings style told =
    (x : SpanReply) × IsReply had archive q settings x
    × IsReportOfReply names had Says archive q settings style x told

-- whose settings must be one
abbrev pub scope_of : SettingsCheck → SettingsScope
scope_of MustAgree = OfBoth
scope_of MayDiffer = OfEach

-- Of what so many files are, none of which is unknown since its file can't be read. Lines on files that are passed over
-- stand before the notes.
pub record IsHolderReportOfFiles {A : Type 0} (names : List (PathBuf A)) (had : ℕ → List ℕ → Type 0) (count : ℕ)
    (Says : ℕ → TextValue → Type 0) (q : HolderQuery) (settings : SettingsCheck) (style : ReportStyle)
    (told : CommandOutput) : Type 0 where
  pub catalogue : Catalogue
  pub is_catalogue : IsCatalogue had count catalogue
  pub tied : AreTied had (scope_of settings) catalogue.archive.primary catalogue.archive.secondary
  pub read : AllRead names catalogue.passed_over.items
  pub core : CommandOutput
  pub reported : IsHolderReport names had Says catalogue.archive q settings style core
  pub passed : List ℕ
  pub told_so : IsBehindNotes passed core told
