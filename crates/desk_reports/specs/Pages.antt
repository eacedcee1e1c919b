-- What the page of a report says, and of which texts.
use Rattle.std.specs.Prelude.{◌≡◌, ℕ, ◌==◌, List, [], Option, Some, None, Result, Ok, Err, option_map, if◌then◌else◌}
use Rattle.journal_lines.specs.declared.line.Journal.{Journal}
use Rattle.journal_lines.specs.declared.fault.JournalFault.{JournalFault}
use Rattle.journal_text.specs.Spelling.{journal_text}
use Rattle.causal_order.specs.declared.certificate.Certificate.{Certificate}
use Rattle.certificate.specs.declared.error.CertificateError.{CertificateError}
use Rattle.evidence_report.specs.declared.piece_report.PieceReport.{PieceReport}
use Rattle.evidence_report.specs.declared.report.CitedLine.{CitedLine}
use Rattle.desk_args.specs.declared.settings.SettingsCheck.{SettingsCheck}
use Rattle.desk_args.specs.declared.settings.SettingsCheck.TheVariants.{MustAgree, MayDiffer}
use Rattle.pair_judgement.specs.declared.judging.Judgement.{Judgement}
use Rattle.pair_judgement.specs.Judgements.{status_of}
use Rattle.plain_search.specs.declared.query.HolderQuery.{HolderQuery}
use Rattle.archive_desk.specs.declared.coverage_gaps.TimingBounds.{TimingBounds}
use Rattle.volume_spans.specs.declared.span.VolumeSpan.{VolumeSpan}
use Rattle.volume_spans.specs.declared.span.SpanPair.{SpanPair}
use Rattle.journal_copies.specs.Used.{lines_used}
use Rattle.journal_copies.specs.Text.{text_up_to}
use Rattle.report_render.specs.declared.facts.PageFacts.{PageFacts}
use Rattle.report_render.specs.declared.facts.PageQuestion.{PageQuestion}
use Rattle.report_render.specs.declared.origin.PageCheck.{PageCheck}
use Rattle.report_render.specs.declared.origin.PageCheck.TheVariants as check
use Rattle.report_render.specs.declared.origin.SettingsRule.{SettingsRule}
use Rattle.report_render.specs.declared.origin.SettingsRule.TheVariants as rule
use Rattle.report_render.specs.declared.origin.TextOrigin.{TextOrigin}
use Rattle.report_render.specs.declared.origin.TextOrigin.TheVariants.{Input, Copied}
use Rattle.report_render.specs.declared.page.Page.{Page}
use Rattle.report_render.specs.declared.text_block.RenderedText.{RenderedText}
use Rattle.report_render.specs.declared.title.ClaimedDelegation.{ClaimedDelegation}
use Rattle.report_render.specs.declared.title.PageTitle.{PageTitle}
use Rattle.report_render.specs.declared.title.PageTitle.TheVariants as title
use Rattle.report_render.specs.Page.{IsPage}
use Rattle.desk_reports.specs.declared.pages.ReportSubject.{ReportSubject}
use Rattle.desk_reports.specs.declared.pages.ReportSubject.TheVariants.{Held, Nobody, Accepted, Refused, Unread}
use Rattle.desk_reports.specs.declared.style.ReportSource.{ReportSource}
use Rattle.desk_reports.specs.declared.style.ReportStyle.{ReportStyle}

-- what a certificate says
abbrev pub claimed : Certificate → ClaimedDelegation
claimed c = record { holder = c.holder; prefix = c.prefix; from = c.from; to = c.to }

-- the certificate's text; nothing where there is none
abbrev pub certificate_of : ReportSubject → List ℕ
certificate_of (Held query claim text) = text.now
certificate_of (Nobody query) = []
certificate_of (Accepted text claim) = text.now
certificate_of (Refused text claim) = text.now
certificate_of (Unread text) = text.now

abbrev pub asked_by : HolderQuery → PageQuestion
asked_by q = record { prefix = q.prefix; at = q.at }

-- what was asked, where it was who held a prefix
abbrev pub question_of : ReportSubject → Option PageQuestion
question_of (Held query claim text) = Some (asked_by query.now)
question_of (Nobody query) = Some (asked_by query.now)
question_of _ = None

-- the moment that was asked of
abbrev pub moment_of : ReportSubject → Option ℕ
moment_of s = option_map (λ (q : PageQuestion). q.at) (question_of s)

-- what the title says: a client is said to have held the prefix where a certificate shows it alone
abbrev pub title_of : ReportSubject → PageTitle
title_of (Held query claim text) = title.HeldAt claim.now.holder query.now.prefix query.now.at
title_of (Nobody query) = title.NotShown query.now.prefix query.now.at
title_of (Accepted text claim) = title.Held claim
title_of (Refused text claim) = title.NotAccepted claim
title_of (Unread text) = title.Unread

-- of a certificate that was read, by how it was ruled on
abbrev pub title_by : Result Certificate CertificateError → Judgement → PageTitle
title_by (Ok c) ruling = if status_of ruling == 0 then title.Held (claimed c) else title.NotAccepted (claimed c)
title_by (Err e) ruling = title.Unread

-- the rule on the journals' settings
abbrev pub rule_of : SettingsCheck → SettingsRule
rule_of MustAgree = rule.MustAgree
rule_of MayDiffer = rule.MayDiffer

-- what shows the same again: the question where nobody is named, else the certificate
abbrev pub IsCheckOf : ReportSubject → SettingsCheck → PageCheck → Type 0
IsCheckOf (Nobody query) settings (check.Holder q by) = (q ≡ asked_by query.now) × (by ≡ rule_of settings)
IsCheckOf (Nobody query) settings (check.Certificate text) = ⊥
IsCheckOf s settings (check.Holder q by) = ⊥
IsCheckOf s settings (check.Certificate text) = text.now ≡ certificate_of s

-- the span of each side, where the journals are volumes
abbrev pub primary_span : Option SpanPair → Option VolumeSpan
primary_span spans = option_map (λ (s : SpanPair). s.primary) spans

abbrev pub secondary_span : Option SpanPair → Option VolumeSpan
secondary_span spans = option_map (λ (s : SpanPair). s.secondary) spans

-- The text that was used of a side, and where it comes from: of volumes up to the last line that their server wrote. None
-- where it was no journal.
abbrev pub IsUsedText : Result Journal JournalFault → Option VolumeSpan → (text : List ℕ) → TextOrigin → Type 0
IsUsedText (Ok j) (Some span) text origin = (text ≡ text_up_to (lines_used j.lines) j)
    × (origin ≡ Copied (record { first = span.first; last = span.last; lines = lines_used j.lines }))
IsUsedText (Ok j) None text origin = (text ≡ journal_text j) × (origin ≡ Input)
IsUsedText (Err fault) span text origin = (text ≡ []) × (origin ≡ Input)

-- what the page says of its case is as it was given
pub record AreFactsOf (s : ReportSubject) (style : ReportStyle) (facts : PageFacts) : Type 0 where
  pub question : facts.question ≡ question_of s
  pub case : facts.case ≡ style.facts.case
  pub asked_by : facts.asked_by ≡ style.facts.asked_by
  pub made : facts.made ≡ style.facts.made

-- all that a page is made of
pub record IsPageFor (source : ReportSource) (s : ReportSubject) (bounds : TimingBounds) (style : ReportStyle)
    (spelling : RenderedText) (picture : List ℕ) (pieces : List PieceReport) (cited : List CitedLine)
    (page : Page) : Type 0 where
  pub title : page.title ≡ title_of s
  pub facts : AreFactsOf s style page.facts
  pub says : page.spelling.now ≡ spelling
  pub shows : page.picture.now ≡ picture
  pub grants : page.pieces.now ≡ pieces
  pub lines : page.cited.now ≡ cited
  pub origins : page.origins ≡ source.origins
  pub access : page.access.now ≡ source.access.now
  pub primary : IsUsedText source.pair.now.primary (primary_span source.volumes) page.origin.primary.text.now
      page.origin.primary.origin
  pub secondary : IsUsedText source.pair.now.secondary (secondary_span source.volumes) page.origin.secondary.text.now
      page.origin.secondary.origin
  pub check : IsCheckOf s source.settings page.origin.check
  pub skew : page.origin.skew ≡ bounds.skew
  pub transit : page.origin.transit ≡ bounds.transit

-- and its text
abbrev pub IsPageText : ReportSource → ReportSubject → TimingBounds → ReportStyle → RenderedText → (picture : List ℕ)
    → List PieceReport → List CitedLine → (text : List ℕ) → Type 0
IsPageText source s bounds style spelling picture pieces cited text = (page : Page)
    × IsPageFor source s bounds style spelling picture pieces cited page × IsPage style.zone page text
