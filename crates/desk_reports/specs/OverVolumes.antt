-- What is told of a certificate, over the volumes that files are.
use Rattle.std.specs.Prelude.{◌≡◌, ◌≤◌, ℕ, List, [], ◌∷◌, Option, Some, None, Result, Ok, Err, codes, option_map}
use Rattle.std.specs.Prelude.{Bool, nat_le, ◌&&◌, if◌then◌else◌}
use Rattle.std.specs.declared.path.buf.PathBuf.{PathBuf}
use Rattle.causal_order.specs.declared.certificate.Certificate.{Certificate as Claim}
use Rattle.causal_order.specs.declared.fault.CertificateFault.{CertificateFault}
use Rattle.certificate.specs.Faults.{certificate_of}
use Rattle.attribution.specs.declared.verdict.Verdict.TheVariants.{Certificate as FaultOf}
use Rattle.pair_judgement.specs.declared.judging.Judgement.TheVariants.{Verdict}
use Rattle.pair_judgement.specs.Judgements.{judgement_line}
use Rattle.access_records.specs.Spelling.{TextValue}
use Rattle.journal_archive.specs.declared.archive.Archive.{Archive}
use Rattle.journal_archive.specs.declared.outline.FiledVolume.{FiledVolume}
use Rattle.journal_archive.specs.declared.pair.PairJournals.{PairJournals}
use Rattle.journal_archive.specs.declared.pair_lookup.VolumePair.{VolumePair}
use Rattle.archive_files.specs.declared.cataloguing.Catalogue.{Catalogue}
use Rattle.archive_files.specs.declared.settings_check.SettingsScope.TheVariants.{OfEach}
use Rattle.archive_files.specs.declared.showing.ShownJournals.{ShownJournals}
use Rattle.archive_files.specs.declared.showing.ShownJournals.TheVariants as showing
use Rattle.archive_files.specs.Catalogues.{IsCatalogue}
use Rattle.archive_files.specs.Showing.{IsShownAt}
use Rattle.archive_files.specs.Ties.{AreTied}
use Rattle.archive_desk.specs.declared.command_output.CommandOutput.{CommandOutput}
use Rattle.archive_desk.specs.declared.coverage_gaps.TimingBounds.{TimingBounds}
use Rattle.archive_desk.specs.CoverageGaps.{BeginsWith}
use Rattle.archive_desk.specs.Unread.{AllRead}
use Rattle.archive_desk.specs.Who.{IsAccessOver}
use Rattle.desk_args.specs.declared.settings.SettingsCheck.TheVariants.{MustAgree}
use Rattle.volume_spans.specs.declared.showing.SpannedJournals.{SpannedJournals}
use Rattle.volume_spans.specs.declared.showing.SpannedJournals.TheVariants as spanned
use Rattle.volume_spans.specs.declared.span.SpanPair.{SpanPair}
use Rattle.volume_spans.specs.declared.span.VolumeSpan.{VolumeSpan}
use Rattle.volume_spans.specs.declared.spans.GivenSpans.{GivenSpans}
use Rattle.volume_spans.specs.declared.spans.GivenSpans.TheVariants as given
use Rattle.volume_spans.specs.declared.spans.ReadSpans.{ReadSpans}
use Rattle.volume_spans.specs.declared.reading.ReadVolume.{ReadVolume}
use Rattle.volume_spans.specs.Reading.{AreRead, LastIs, span_of}
use Rattle.volume_spans.specs.Spans.{AreGiven, IsLastPair, pair_of}
use Rattle.line_origins.specs.declared.spans.SpanOrigins.{SpanOrigins}
use Rattle.line_origins.specs.Spans.{AreOriginsOf}
use Rattle.joined_rulings.specs.declared.widest.CertificateRuling.{CertificateRuling}
use Rattle.joined_rulings.specs.declared.widest.CertificateRuling.TheVariants.{Own, Joined}
use Rattle.joined_rulings.specs.declared.widest.SpannedAudit.{SpannedAudit}
use Rattle.joined_rulings.specs.Lacks.{missing_line, refusal_line}
use Rattle.joined_rulings.specs.Rulings.{IsSpannedAudit}
use Rattle.joined_rulings.specs.Trials.{AreShownBySpans}
use Rattle.desk_reports.specs.declared.style.ReportSource.{ReportSource}
use Rattle.desk_reports.specs.declared.style.ReportStyle.{ReportStyle}
use Rattle.desk_reports.specs.Behind.{IsBehindNotes, files_note}
use Rattle.desk_reports.specs.Laws.{IsTrueOver}
use Rattle.desk_reports.specs.Told.{IsExplanationTold}
use Rattle.desk_reports.specs.Unanswered.{IsRulingTold, IsLackTold}

-- ---- over two journals

-- what access records say of the grants that the certificate names; nothing of a text that is none
abbrev pub IsClaimAccess : (Says : ℕ → TextValue → Type 0) → VolumePair → SpanPair → Result Claim CertificateFault
    → List ℕ → Type 0
IsClaimAccess Says pair spans (Ok claim) text = IsAccessOver Says pair spans claim text
IsClaimAccess Says pair spans (Err fault) text = text ≡ []

-- the two journals that these volumes show, which of them has each line, and what is said beside the last ones
pub record IsSourceOver (Says : ℕ → TextValue → Type 0) (pair : VolumePair) (spans : SpanPair)
    (origins : Option SpanOrigins) (shown : PairJournals) (certificate : List ℕ) (source : ReportSource)
    : Type 0 where
  pub primary : source.pair.now.primary ≡ Ok shown.primary
  pub secondary : source.pair.now.secondary ≡ Ok shown.secondary
  pub volumes : source.volumes ≡ Some spans
  pub origins_are : option_map (λ o. o.now) source.origins ≡ origins
  pub access : IsClaimAccess Says pair spans (certificate_of certificate) source.access.now
  pub settings : source.settings ≡ MustAgree

-- a report over these journals, behind a note that names the volumes
pub record IsReportOver {A : Type 0} (names : List (PathBuf A)) (Says : ℕ → TextValue → Type 0) (pair : VolumePair)
    (spans : SpanPair) (origins : Option SpanOrigins) (shown : PairJournals) (certificate : List ℕ)
    (bounds : TimingBounds) (style : ReportStyle) (told : CommandOutput) : Type 0 where
  pub source : ReportSource
  pub is_source : IsSourceOver Says pair spans origins shown certificate source
  pub core : CommandOutput
  pub report : IsExplanationTold source certificate bounds style core
  pub told_so : IsBehindNotes (files_note names pair spans) core told

-- the numbers of the volumes of both sides
abbrev pub spans_read : (primary secondary : List ReadVolume) → SpanPair
spans_read primary secondary = record { primary = span_of primary; secondary = span_of secondary }

-- ---- over spans

-- of the journals that they show, or why the volumes of a side aren't one journal
abbrev pub IsReportOfSpanned : {A : Type 0} → List (PathBuf A) → (Says : ℕ → TextValue → Type 0) → ReadSpans
    → (certificate : List ℕ) → TimingBounds → ReportStyle → SpannedJournals → CommandOutput → Type 0
IsReportOfSpanned names Says r certificate bounds style (spanned.Journals shown) told =
    (pair : VolumePair) × (origins : SpanOrigins) × IsLastPair r pair × AreOriginsOf r origins
    × IsReportOver names Says pair (pair_of r) (Some origins) shown certificate bounds style told
IsReportOfSpanned names Says r certificate bounds style (spanned.Refused refusal) told =
    IsRulingTold style.form certificate (refusal_line names refusal) [] told

abbrev pub IsReportOfSpans : {A : Type 0} → List (PathBuf A) → (Says : ℕ → TextValue → Type 0) → ReadSpans
    → (certificate : List ℕ) → TimingBounds → ReportStyle → CommandOutput → Type 0
IsReportOfSpans names Says r certificate bounds style told =
    (x : SpannedJournals) × AreShownBySpans r x × IsReportOfSpanned names Says r certificate bounds style x told

-- of the volumes that are asked for, or which of them is missing
abbrev pub IsReportOfGiven : {A : Type 0} → List (PathBuf A) → (Says : ℕ → TextValue → Type 0)
    → (certificate : List ℕ) → TimingBounds → ReportStyle → GivenSpans → CommandOutput → Type 0
IsReportOfGiven names Says certificate bounds style (given.Read r) told =
    IsReportOfSpans names Says r certificate bounds style told
IsReportOfGiven names Says certificate bounds style (given.Missing side number) told =
    IsRulingTold style.form certificate (codes "none\n") (missing_line side number) told

abbrev pub IsReportOverGiven : {A : Type 0} → List (PathBuf A) → (had : ℕ → List ℕ → Type 0)
    → (Says : ℕ → TextValue → Type 0) → Archive → SpanPair → (certificate : List ℕ) → TimingBounds → ReportStyle
    → CommandOutput → Type 0
IsReportOverGiven names had Says archive spans certificate bounds style told =
    (x : GivenSpans) × AreGiven had archive spans x × IsReportOfGiven names Says certificate bounds style x told

-- ---- over the pair of volumes that shows a moment

abbrev pub alone : FiledVolume → VolumeSpan
alone filed = record { first = filed.outline.number; last = filed.outline.number }

abbrev pub spans_of : VolumePair → SpanPair
spans_of pair = record { primary = alone pair.primary; secondary = alone pair.secondary }

-- of the journals that the two show, or what is lacking
abbrev pub IsReportOfShown : {A : Type 0} → List (PathBuf A) → (Says : ℕ → TextValue → Type 0)
    → (certificate : List ℕ) → TimingBounds → ReportStyle → ShownJournals → CommandOutput → Type 0
IsReportOfShown names Says certificate bounds style (showing.Journals pair journals) told =
    IsReportOver names Says pair (spans_of pair) None journals certificate bounds style told
IsReportOfShown names Says certificate bounds style (showing.Lacking side lack) told =
    IsLackTold style.form certificate side lack told

abbrev pub IsReportAt : {A : Type 0} → List (PathBuf A) → (had : ℕ → List ℕ → Type 0) → (Says : ℕ → TextValue → Type 0)
    → Archive → (moment : ℕ) → (certificate : List ℕ) → TimingBounds → ReportStyle → CommandOutput → Type 0
IsReportAt names had Says archive moment certificate bounds style told =
    (x : ShownJournals) × IsShownAt had archive bounds.skew bounds.transit moment x
    × IsReportOfShown names Says certificate bounds style x told

-- where the certificate's interval begins; or the fault of its text, of which no journals are asked
abbrev pub IsReportOfClaim : {A : Type 0} → List (PathBuf A) → (had : ℕ → List ℕ → Type 0)
    → (Says : ℕ → TextValue → Type 0) → Archive → (certificate : List ℕ) → TimingBounds → ReportStyle
    → Result Claim CertificateFault → CommandOutput → Type 0
IsReportOfClaim names had Says archive certificate bounds style (Ok claim) told =
    IsReportAt names had Says archive claim.from certificate bounds style told
IsReportOfClaim names had Says archive certificate bounds style (Err fault) told =
    IsRulingTold style.form certificate (judgement_line (Verdict (FaultOf fault))) [] told

abbrev pub IsReportOfOwn : {A : Type 0} → List (PathBuf A) → (had : ℕ → List ℕ → Type 0)
    → (Says : ℕ → TextValue → Type 0) → Archive → (certificate : List ℕ) → TimingBounds → ReportStyle
    → CommandOutput → Type 0
IsReportOfOwn names had Says archive certificate bounds style told =
    IsReportOfClaim names had Says archive certificate bounds style (certificate_of certificate) told

-- ---- over either

-- the first volume of each side isn't behind its last
abbrev pub IsOrdered : SpanPair → Type 0
IsOrdered spans = (spans.primary.first ≤ spans.primary.last) × (spans.secondary.first ≤ spans.secondary.last)

abbrev pub are_in_order : SpanPair → Bool
are_in_order spans =
    nat_le spans.primary.first spans.primary.last && nat_le spans.secondary.first spans.secondary.last

abbrev pub in_order : SpanPair → Option SpanPair
in_order spans = if are_in_order spans then Some spans else None

-- the volumes over which `audit` accepts the certificate, where its own pair of volumes doesn't
abbrev pub accepted_spans : List CertificateRuling → Option SpanPair
accepted_spans [] = None
accepted_spans (Joined ruling ∷ rs) = in_order ruling.spans
accepted_spans (Own own ∷ rs) = None

-- over these spans, or where there are none over its own pair
abbrev pub IsReportBy : {A : Type 0} → List (PathBuf A) → (had : ℕ → List ℕ → Type 0) → (Says : ℕ → TextValue → Type 0)
    → Archive → (certificate : List ℕ) → TimingBounds → ReportStyle → Option SpanPair → CommandOutput → Type 0
IsReportBy names had Says archive certificate bounds style (Some spans) told =
    IsReportOverGiven names had Says archive spans certificate bounds style told
IsReportBy names had Says archive certificate bounds style None told =
    IsReportOfOwn names had Says archive certificate bounds style told

-- ---- what is accepted

-- Volumes of both sides that were read of the files, each the next one of the one before it, which standard error names;
-- the certificate is true over them.
pub record IsTrueOfRead {A : Type 0} (names : List (PathBuf A)) (had : ℕ → List ℕ → Type 0) (archive : Archive)
    (certificate : List ℕ) (bounds : TimingBounds) (told : CommandOutput) : Type 0 where
  pub primary : List ReadVolume
  pub secondary : List ReadVolume
  pub primary_read : AreRead had archive.primary primary
  pub secondary_read : AreRead had archive.secondary secondary
  pub pair : VolumePair
  pub primary_last : LastIs primary (λ v. pair.primary ≡ v.filed)
  pub secondary_last : LastIs secondary (λ v. pair.secondary ≡ v.filed)
  pub named : BeginsWith (files_note names pair (spans_read primary secondary)) told.notes.items
  pub is_true : IsTrueOver primary secondary bounds certificate

-- so it is with what is told with status 0
abbrev pub AcceptedIsTrue : {A : Type 0} → List (PathBuf A) → (had : ℕ → List ℕ → Type 0) → Archive
    → (certificate : List ℕ) → TimingBounds → CommandOutput → Type 0
AcceptedIsTrue names had archive certificate bounds told =
    told.status ≡ 0 → IsTrueOfRead names had archive certificate bounds told

-- ---- over the volumes that files are

-- Of what so many files are, none of which is unknown since its file can't be read: over these spans, or where there are
-- none over the certificate's own pair. Lines on files that are passed over stand before the notes.
pub record IsReportOfFiles {A : Type 0} (names : List (PathBuf A)) (had : ℕ → List ℕ → Type 0) (count : ℕ)
    (Says : ℕ → TextValue → Type 0) (certificate : List ℕ) (bounds : TimingBounds) (style : ReportStyle)
    (spans : Option SpanPair) (told : CommandOutput) : Type 0 where
  pub catalogue : Catalogue
  pub is_catalogue : IsCatalogue had count catalogue
  pub tied : AreTied had OfEach catalogue.archive.primary catalogue.archive.secondary
  pub read : AllRead names catalogue.passed_over.items
  pub core : CommandOutput
  pub reported : IsReportBy names had Says catalogue.archive certificate bounds style spans core
  pub accepted : AcceptedIsTrue names had catalogue.archive certificate bounds core
  pub passed : List ℕ
  pub told_so : IsBehindNotes passed core told

-- over those that `audit` answers over
pub record IsReportOfAudit {A : Type 0} (names : List (PathBuf A)) (had : ℕ → List ℕ → Type 0) (count : ℕ)
    (Says : ℕ → TextValue → Type 0) (certificate : List ℕ) (bounds : TimingBounds) (style : ReportStyle)
    (told : CommandOutput) : Type 0 where
  pub audit : SpannedAudit
  pub audited : IsSpannedAudit had count names (certificate ∷ []) bounds audit
  pub reported : IsReportOfFiles names had count Says certificate bounds style (accepted_spans audit.rulings.items) told
