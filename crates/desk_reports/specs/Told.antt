-- What is told of a certificate's text, and of a question who held a prefix, over two texts as journals.
use Rattle.std.specs.Prelude.{◌≡◌, ⊤, ℕ, List, [], None, Some, Result, Ok, Err, map}
use Rattle.binding_rules.specs.declared.role.Role.{Role}
use Rattle.binding_rules.specs.declared.role.Role.TheVariants.{Primary, Secondary}
use Rattle.journal_lines.specs.declared.line.Journal.{Journal}
use Rattle.journal_lines.specs.declared.fault.JournalFault.{JournalFault}
use Rattle.causal_order.specs.declared.certificate.Certificate.{Certificate}
use Rattle.certificate.specs.declared.error.CertificateError.{CertificateError}
use Rattle.certificate.specs.declared.error.CertificateError.TheVariants.{Fault, Memory}
use Rattle.certificate.specs.Faults.{certificate_of as certificate_in}
use Rattle.certificate.specs.Spelling.{certificate_text}
use Rattle.attribution.specs.declared.verdict.Verdict.TheVariants.{Journal as JournalRefused}
use Rattle.pair_judgement.specs.declared.judging.Judgement.TheVariants.{Verdict}
use Rattle.pair_judgement.specs.Judgements.{status_of}
use Rattle.plain_search.specs.declared.query.HolderQuery.{HolderQuery}
use Rattle.attribution_desk.specs.Warnings.{IsWarningOf}
use Rattle.attribution_desk.specs.Searching.{TellsAnswer, status_of as search_status, note_of}
use Rattle.holder_answers.specs.declared.answer.HolderAnswer.{HolderAnswer}
use Rattle.holder_answers.specs.declared.answer.HolderAnswer.TheVariants.{Held, Refused, NotNamed, TooLong}
use Rattle.candidate_leases.specs.declared.volume_ends.VolumeEnd.TheVariants.{Closed}
use Rattle.candidate_leases.specs.declared.volume_ends.VolumeEnds.{VolumeEnds}
use Rattle.holder_answers.specs.HolderAnswers.{search_of, IsAnswerOver}
use Rattle.desk_args.specs.declared.settings.SettingsCheck.{SettingsCheck}
use Rattle.report_document.specs.declared.block.Block.{Block}
use Rattle.report_document.specs.declared.document.Explanation.{Explanation}
use Rattle.report_document.specs.Telling.{told_of}
use Rattle.report_render.specs.declared.text_block.RenderedText.{RenderedText}
use Rattle.report_render.specs.declared.title.PageTitle.TheVariants as title
use Rattle.report_render.specs.Spelling.{ArePassages}
use Rattle.report_render.specs.Text.{report_text}
use Rattle.answer_data.specs.Unnamed.{IsWhyData}
use Rattle.archive_desk.specs.declared.command_output.CommandOutput.{CommandOutput}
use Rattle.archive_desk.specs.declared.coverage_gaps.TimingBounds.{TimingBounds}
use Rattle.desk_args.specs.declared.request.ReportForm.{ReportForm}
use Rattle.desk_args.specs.declared.request.ReportForm.TheVariants.{Plain, Page, Json}
use Rattle.desk_reports.specs.declared.pages.ReportSubject.{ReportSubject}
use Rattle.desk_reports.specs.declared.style.ReportSource.{ReportSource}
use Rattle.desk_reports.specs.declared.style.ReportStyle.{ReportStyle}
use Rattle.desk_reports.specs.Explaining.{IsExplained, IsExplainedOfRead}
use Rattle.desk_reports.specs.NoHolders.{no_holder_told}
use Rattle.desk_reports.specs.Pages.{asked_by, certificate_of, question_of, title_of, title_by, IsPageText}
use Rattle.desk_reports.specs.Reports.{IsReportText}
use Rattle.desk_reports.specs.Unanswered.{sentences_page}

-- what the text of a certificate was read to: what it spells, or its first fault
abbrev pub IsReadOf : (text : List ℕ) → Result Certificate CertificateError → Type 0
IsReadOf text (Ok c) = (text ≡ certificate_text c) × (certificate_in text ≡ Ok c)
IsReadOf text (Err (Fault fault)) = certificate_in text ≡ Err fault
IsReadOf text (Err Memory) = ⊤

-- The report on a certificate's text: its ruling, and what that rests on, of the journals that were read; status 0 where
-- the certificate is accepted, and a title by the ruling.
pub record IsExplanationTold (source : ReportSource) (certificate : List ℕ) (bounds : TimingBounds) (style : ReportStyle)
    (told : CommandOutput) : Type 0 where
  pub claim : Result Certificate CertificateError
  pub read : IsReadOf certificate claim
  pub explanation : Explanation
  pub explained : IsExplainedOfRead source.pair.now.primary source.pair.now.secondary bounds.skew bounds.transit claim
      explanation
  pub subject : ReportSubject
  pub title : title_of subject ≡ title_by claim explanation.ruling
  pub text_is : certificate_of subject ≡ certificate
  pub unasked : question_of subject ≡ None
  pub written : IsReportText explanation source subject bounds style told.text.items
  pub status : told.status ≡ status_of explanation.ruling
  pub warned : IsWarningOf source.pair.now.primary source.pair.now.secondary bounds.skew bounds.transit told.notes.items

-- the bounds that a question is asked with
abbrev pub bounds_of : HolderQuery → TimingBounds
bounds_of q = record { skew = q.skew; transit = q.transit }

-- The report on the certificate that names a holder: a title that says so, and what the certificate shows over both
-- journals.
pub record IsHeldTold (a b : Journal) (source : ReportSource) (q : HolderQuery) (c : Certificate) (style : ReportStyle)
    (told : CommandOutput) : Type 0 where
  pub explanation : Explanation
  pub explained : IsExplained a b q.skew q.transit c explanation
  pub subject : ReportSubject
  pub title : title_of subject ≡ title.HeldAt c.holder q.prefix q.at
  pub text_is : certificate_of subject ≡ certificate_text c
  pub asked : question_of subject ≡ Some (asked_by q)
  pub written : IsReportText explanation source subject (bounds_of q) style told.text.items
  pub status : told.status ≡ 0
  pub notes : told.notes.items ≡ []

-- the answer's line, and why nobody is named, spelled
pub record IsWhySpelled (q : HolderQuery) (answer : HolderAnswer) (style : ReportStyle) (spelling : RenderedText)
    : Type 0 where
  pub line : TellsAnswer (search_of answer) spelling.line.items
  pub blocks : List Block
  pub told : map told_of blocks ≡ no_holder_told q answer
  pub passages : ArePassages style.zone blocks spelling.passages.items

abbrev pub IsWhySentences : HolderQuery → HolderAnswer → ReportStyle → List ℕ → Type 0
IsWhySentences q answer style text = (spelling : RenderedText) × IsWhySpelled q answer style spelling
    × (text ≡ report_text spelling)

-- a page whose title says that it is shown of nobody
pub record IsWhyPage (source : ReportSource) (q : HolderQuery) (answer : HolderAnswer) (style : ReportStyle)
    (text : List ℕ) : Type 0 where
  pub spelling : RenderedText
  pub spelled : IsWhySpelled q answer style spelling
  pub subject : ReportSubject
  pub title : title_of subject ≡ title.NotShown q.prefix q.at
  pub asked : question_of subject ≡ Some (asked_by q)
  pub page : IsPageText source subject (bounds_of q) style spelling [] [] [] text

-- a page of the sentences alone
abbrev pub IsWhyUnread : HolderQuery → HolderAnswer → ReportStyle → List ℕ → Type 0
IsWhyUnread q answer style text =
    (sentences : List ℕ) × IsWhySentences q answer style sentences × (text ≡ sentences_page sentences)

-- of journals; where a text is none its page has the sentences alone
abbrev pub IsWhyPageBy : Result Journal JournalFault → Result Journal JournalFault → ReportSource → HolderQuery
    → HolderAnswer → ReportStyle → List ℕ → Type 0
IsWhyPageBy (Ok a) (Ok b) source q answer style text = IsWhyPage source q answer style text
IsWhyPageBy a b source q answer style text = IsWhyUnread q answer style text

-- as an object: the answer's line, the reason and the delegations near the moment, over the volumes of the question
abbrev pub IsWhyObject : ReportSource → HolderQuery → HolderAnswer → List ℕ → Type 0
IsWhyObject source q answer text = (line : List ℕ) × TellsAnswer (search_of answer) line
    × IsWhyData q line answer source.volumes text

-- in the form that is asked for
abbrev pub IsWhyIn : ReportForm → ReportSource → HolderQuery → HolderAnswer → ReportStyle → List ℕ → Type 0
IsWhyIn Plain source q answer style text = IsWhySentences q answer style text
IsWhyIn Page source q answer style text =
    IsWhyPageBy source.pair.now.primary source.pair.now.secondary source q answer style text
IsWhyIn Json source q answer style text = IsWhyObject source q answer text

-- a report on an answer that names nobody
pub record IsWhyTold (source : ReportSource) (q : HolderQuery) (answer : HolderAnswer) (style : ReportStyle)
    (told : CommandOutput) : Type 0 where
  pub written : IsWhyIn style.form source q answer style told.text.items
  pub status : told.status ≡ search_status (search_of answer)
  pub notes : told.notes.items ≡ note_of (search_of answer)

-- a report on an answer that was found over two journals
abbrev pub IsReplyOver : Journal → Journal → ReportSource → HolderQuery → HolderAnswer → ReportStyle → CommandOutput
    → Type 0
IsReplyOver a b source q (Held c) style told = IsHeldTold a b source q c style told
IsReplyOver a b source q (Refused ruling) style told = IsWhyTold source q (Refused ruling) style told
IsReplyOver a b source q (NotNamed n) style told = IsWhyTold source q (NotNamed n) style told
IsReplyOver a b source q (TooLong n) style told = IsWhyTold source q (TooLong n) style told

-- a fault of a text before all of that
abbrev pub IsUnreadTold : Role → JournalFault → ReportSource → HolderQuery → ReportStyle → CommandOutput → Type 0
IsUnreadTold side fault source q style told = IsWhyTold source q (Refused (Verdict (JournalRefused side fault))) style told

-- the same of what two texts are as journals
abbrev pub IsReplyBehindA : Journal → Result Journal JournalFault → ReportSource → HolderQuery → HolderAnswer → ReportStyle
    → CommandOutput → Type 0
IsReplyBehindA a (Ok b) source q answer style told = IsReplyOver a b source q answer style told
IsReplyBehindA a (Err fault) source q answer style told = IsUnreadTold Secondary fault source q style told

abbrev pub IsReplyOf : Result Journal JournalFault → Result Journal JournalFault → ReportSource → HolderQuery → HolderAnswer
    → ReportStyle → CommandOutput → Type 0
IsReplyOf (Ok a) b source q answer style told = IsReplyBehindA a b source q answer style told
IsReplyOf (Err fault) b source q answer style told = IsUnreadTold Primary fault source q style told

-- neither journal is still being written
abbrev pub both_closed : VolumeEnds
both_closed = record { primary = Closed; secondary = Closed }

-- a report on what the search answers over two closed journals
abbrev pub IsHolderOver : Journal → Journal → ReportSource → HolderQuery → SettingsCheck → ReportStyle → CommandOutput → Type 0
IsHolderOver a b source q settings style told = (answer : HolderAnswer)
    × IsAnswerOver a b q settings both_closed answer × IsReplyOver a b source q answer style told

abbrev pub IsHolderBehindA : Journal → Result Journal JournalFault → ReportSource → HolderQuery → SettingsCheck → ReportStyle
    → CommandOutput → Type 0
IsHolderBehindA a (Ok b) source q settings style told = IsHolderOver a b source q settings style told
IsHolderBehindA a (Err fault) source q settings style told = IsUnreadTold Secondary fault source q style told

abbrev pub IsHolderTold : Result Journal JournalFault → Result Journal JournalFault → ReportSource → HolderQuery
    → SettingsCheck → ReportStyle → CommandOutput → Type 0
IsHolderTold (Ok a) b source q settings style told = IsHolderBehindA a b source q settings style told
IsHolderTold (Err fault) b source q settings style told = IsUnreadTold Primary fault source q style told
