-- What is told over volumes, beside the notes that stand before it.
use Rattle.std.specs.Prelude.{◌≡◌, ℕ, List, Option, Result, Ok, Err, IfOk, IsOkAnd}
use Rattle.std.proofs.Common.{subst}
use Rattle.std.specs.declared.path.buf.PathBuf.{PathBuf}
use Rattle.access_records.specs.Spelling.{TextValue}
use Rattle.journal_lines.specs.declared.line.Journal.{Journal}
use Rattle.journal_lines.specs.declared.fault.JournalFault.{JournalFault}
use Rattle.journal_archive.specs.declared.pair.PairJournals.{PairJournals}
use Rattle.journal_archive.specs.declared.pair_lookup.VolumePair.{VolumePair}
use Rattle.plain_search.specs.declared.query.HolderQuery.{HolderQuery}
use Rattle.desk_args.specs.declared.settings.SettingsCheck.{SettingsCheck}
use Rattle.volume_spans.specs.declared.span.SpanPair.{SpanPair}
use Rattle.line_origins.specs.declared.spans.SpanOrigins.{SpanOrigins}
use Rattle.joined_answers.specs.declared.answer.SpannedAnswer.{SpannedAnswer}
use Rattle.archive_desk.specs.declared.command_output.CommandOutput.{CommandOutput}
use Rattle.archive_desk.specs.declared.coverage_gaps.TimingBounds.{TimingBounds}
use Rattle.desk_reports.specs.declared.style.ReportSource.{ReportSource}
use Rattle.desk_reports.specs.declared.style.ReportStyle.{ReportStyle}
use Rattle.desk_reports.specs.Behind.{IsBehindNotes, files_note}
use Rattle.desk_reports.specs.Told.{IsReplyOf, IsExplanationTold}
use Rattle.desk_reports.specs.OverFiles.{IsAnswerSource, IsSpannedReport}
use Rattle.desk_reports.specs.OverVolumes.{IsSourceOver, IsReportOver}

-- what is told of an answer over spans, behind a note that names the volumes
pub spanned_report : {A E : Type 0} (names : List (PathBuf A)) (Says : ℕ → TextValue → Type 0) (a : SpannedAnswer)
    (q : HolderQuery) (settings : SettingsCheck) (style : ReportStyle) (source : ReportSource)
    (reply : Result CommandOutput E) (noted : CommandOutput)
    → IfOk reply (IsReplyOf source.pair.now.primary source.pair.now.secondary source q a.answer style)
    → IsAnswerSource Says a settings source
    → IsOkAnd reply (λ core. IsBehindNotes (files_note names a.pair a.spans) core noted)
    → IsSpannedReport names Says a q settings style noted
spanned_report names Says a q settings style source (Ok core) noted is made behind = record {
  source = source;
  is_source = made;
  core = core;
  reply = subst (λ (b : Result Journal JournalFault). IsReplyOf (Ok a.shown.primary) b source q a.answer style core)
      made.secondary (subst (λ (b : Result Journal JournalFault). IsReplyOf b source.pair.now.secondary source q a.answer
      style core) made.primary is);
  told_so = behind;
}
spanned_report names Says a q settings style source (Err e) noted is made behind = absurd behind

-- the same of a certificate
pub report_over : {A E : Type 0} (names : List (PathBuf A)) (Says : ℕ → TextValue → Type 0) (pair : VolumePair)
    (spans : SpanPair) (origins : Option SpanOrigins) (shown : PairJournals) (certificate : List ℕ)
    (bounds : TimingBounds) (style : ReportStyle) (source : ReportSource) (report : Result CommandOutput E) (noted : CommandOutput)
    → IfOk report (IsExplanationTold source certificate bounds style)
    → IsSourceOver Says pair spans origins shown certificate source
    → IsOkAnd report (λ core. IsBehindNotes (files_note names pair spans) core noted)
    → IsReportOver names Says pair spans origins shown certificate bounds style noted
report_over names Says pair spans origins shown certificate bounds style source (Ok core) noted is made behind =
    record { source = source; is_source = made; core = core; report = is; told_so = behind }
report_over names Says pair spans origins shown certificate bounds style source (Err e) noted is made behind = absurd behind

-- what is told by a call is told by the one around it
pub handed : {E F : Type 0} (Is : CommandOutput → Type 0) (told : Result CommandOutput E) (r : Result CommandOutput F)
    → IfOk told Is → IfOk r (λ output. IsOkAnd told (λ own. own ≡ output)) → IfOk r Is
handed Is (Ok own) (Ok output) is same = subst Is same is
handed Is (Err e) (Ok output) is same = absurd same
handed Is told (Err e) is same = tt
