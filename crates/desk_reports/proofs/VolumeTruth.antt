-- What is accepted over the journals that volumes show is true over these volumes.
use Rattle.std.specs.Prelude.{◌≡◌, ℕ, List, [], ◌∷◌, Option, Some, None, Result, Ok, Err}
use Rattle.std.proofs.Common.{arith, sym, ◌∙◌, ap, subst, refl}
use Rattle.std.specs.declared.path.buf.PathBuf.{PathBuf}
use Rattle.journal_lines.specs.declared.fault.JournalFault.{JournalFault}
use Rattle.journal_lines.specs.declared.line.Journal.{Journal as Lines}
use Rattle.causal_order.specs.declared.certificate.Certificate.{Certificate as Claim}
use Rattle.causal_order.specs.declared.fault.CertificateFault.{CertificateFault}
use Rattle.certificate.specs.declared.error.CertificateError.{CertificateError}
use Rattle.certificate.specs.declared.error.CertificateError.TheVariants.{Fault, Memory}
use Rattle.certificate.specs.Faults.{certificate_of}
use Rattle.certificate.specs.Spelling.{certificate_text}
use Rattle.attribution.specs.FirstRefusal.{AcceptsTheAccepted}
use Rattle.attribution.specs.declared.verdict.Verdict.{Verdict as VerdictValue}
use Rattle.attribution.specs.declared.verdict.Verdict.TheVariants as verdict
use Rattle.pair_judgement.specs.declared.judging.Judgement.{Judgement}
use Rattle.pair_judgement.specs.declared.judging.Judgement.TheVariants.{Verdict, Clocks, Pair, Skew, Carried}
use Rattle.pair_judgement.specs.Judgements.{verdict_status, status_of}
use Rattle.attribution_desk.specs.Judgements.{IsJudgementOfJournals}
use Rattle.access_records.specs.Spelling.{TextValue}
use Rattle.open_volume.specs.declared.volume.VolumeSoFar.{VolumeSoFar}
use Rattle.open_volume.specs.Laws.{GivesTheVolumeItSpells}
use Rattle.open_volume.specs.Spelling.{IsWrittenSoFar}
use Rattle.journal_archive.specs.declared.archive.Archive.{Archive}
use Rattle.journal_archive.specs.declared.outline.FiledVolume.{FiledVolume}
use Rattle.journal_archive.specs.declared.pair.PairJournals.{PairJournals}
use Rattle.archive_files.specs.declared.showing.ShownJournals.TheVariants as showing
use Rattle.archive_files.specs.Showing.{IsCopyOf}
use Rattle.archive_desk.specs.declared.command_output.CommandOutput.{CommandOutput}
use Rattle.archive_desk.specs.declared.coverage_gaps.TimingBounds.{TimingBounds}
use Rattle.volume_spans.specs.declared.reading.ReadVolume.{ReadVolume}
use Rattle.volume_spans.specs.declared.showing.SpannedJournals.TheVariants as spanned
use Rattle.volume_spans.specs.declared.span.SpanPair.{SpanPair}
use Rattle.volume_spans.specs.declared.spans.GivenSpans.TheVariants as given
use Rattle.volume_spans.specs.declared.spans.ReadSpans.{ReadSpans}
use Rattle.volume_spans.specs.Laws.{AcceptedOverSpansIsTrue}
use Rattle.volume_spans.specs.Shown.{IsShownOver}
use Rattle.volume_spans.specs.Spans.{ArePairRead}
use Rattle.joined_rulings.proofs.Truth.{accepted_by}
use Rattle.report_document.specs.declared.document.Explanation.{Explanation}
use Rattle.desk_reports.specs.declared.style.ReportStyle.{ReportStyle}
use Rattle.desk_reports.specs.Explaining.{IsExplained, IsExplainedOfRead}
use Rattle.desk_reports.specs.Laws.{IsTrueOver, VolumeReportsAreTrue}
use Rattle.desk_reports.specs.OverVolumes.{IsReportOfSpans, IsReportOverGiven, IsReportAt, IsReportOfClaim, IsReportBy}
use Rattle.desk_reports.specs.OverVolumes.{IsTrueOfRead, AcceptedIsTrue}
use Rattle.desk_reports.specs.Told.{IsReadOf}
use Rattle.desk_reports.specs.Unanswered.{IsRefusedBy}
use Rattle.desk_reports.proofs.Accepted.{accepted_is_ruled}

-- ---- status 0

accepting : (v : VerdictValue) → verdict_status v ≡ 0 → v ≡ verdict.Accepted
accepting verdict.Accepted e = refl
accepting (verdict.Journal side fault) e = absurd (omega (arith, e))
accepting (verdict.Certificate fault) e = absurd (omega (arith, e))
accepting (verdict.Rule side line rule) e = absurd (omega (arith, e))
accepting (verdict.Unsent r) e = absurd (omega (arith, e))
accepting (verdict.Differs r) e = absurd (omega (arith, e))
accepting verdict.Circular e = absurd (omega (arith, e))
accepting verdict.EmptyInterval e = absurd (omega (arith, e))
accepting (verdict.PastEnd side) e = absurd (omega (arith, e))
accepting (verdict.PieceGap n) e = absurd (omega (arith, e))
accepting (verdict.PieceGrant n) e = absurd (omega (arith, e))
accepting verdict.BeforeOpen e = absurd (omega (arith, e))
accepting (verdict.PieceRelease n r) e = absurd (omega (arith, e))
accepting (verdict.Uncovered r) e = absurd (omega (arith, e))
accepting (verdict.Reason r) e = absurd (omega (arith, e))

accepts : (r : Judgement) → status_of r ≡ 0 → r ≡ Verdict verdict.Accepted
accepts (Verdict v) e = ap Verdict (accepting v e)
accepts (Clocks take) e = absurd (omega (arith, e))
accepts Pair e = absurd (omega (arith, e))
accepts Skew e = absurd (omega (arith, e))
accepts (Carried line) e = absurd (omega (arith, e))

-- what is accepted was read to a certificate
of_claim : (a b : Lines) (skew transit : ℕ) (read : Result Claim CertificateError) (text : List ℕ) (e : Explanation)
    → IsReadOf text read → IsExplainedOfRead (Ok a) (Ok b) skew transit read e → e.ruling ≡ Verdict verdict.Accepted
    → (c : Claim) × (text ≡ certificate_text c) × IsExplained a b skew transit c e
of_claim a b skew transit (Ok c) text e is explained accepted = (c, is.0, explained)
of_claim a b skew transit (Err (Fault fault)) text e is explained accepted = let x = explained.0 in absurd (cc)
of_claim a b skew transit (Err Memory) text e is explained accepted = absurd explained

module _ (law : AcceptsTheAccepted) (spans_law : AcceptedOverSpansIsTrue) where
  over_shown : (primary secondary : List ReadVolume) (journals : PairJournals) (bounds : TimingBounds)
      (text : List ℕ) (e : Explanation) → IsShownOver primary secondary (spanned.Journals journals)
      → e.ruling ≡ Verdict verdict.Accepted
      → (c : Claim) × (text ≡ certificate_text c)
      × IsExplained journals.primary journals.secondary bounds.skew bounds.transit c e
      → IsTrueOver primary secondary bounds text
  over_shown primary secondary journals bounds text e shows accepted case =
      let c = case.0 in
      let judged = subst (λ (r : Judgement). IsJudgementOfJournals journals.primary journals.secondary bounds.skew
      bounds.transit c r) accepted (accepted_is_ruled journals.primary journals.secondary bounds.skew bounds.transit c e
      case.2) in
      record {
        claim = c;
        spelled = case.1;
        is_true = spans_law primary secondary journals bounds.skew bounds.transit c shows
            (accepted_by law journals.primary journals.secondary bounds.skew bounds.transit c judged);
      }

  pub reports_true : VolumeReportsAreTrue
  reports_true primary secondary journals source text bounds style told shows first second report zero =
      let e = report.explanation in
      let accepted = accepts e.ruling (sym report.status ∙ zero) in
      let explained = subst (λ (b : Result Lines JournalFault). IsExplainedOfRead (Ok journals.primary) b bounds.skew
      bounds.transit report.claim e) second (subst (λ (a : Result Lines JournalFault).
      IsExplainedOfRead a source.pair.now.secondary bounds.skew bounds.transit report.claim e) first report.explained) in
      over_shown primary secondary journals bounds text e shows accepted
      (of_claim journals.primary journals.secondary bounds.skew bounds.transit report.claim text e report.read explained
      accepted)

-- ---- of files

-- nothing that is refused is accepted
refused_not : (Written : List ℕ → Type 0) (notes : List ℕ) (told : CommandOutput) → IsRefusedBy Written notes told
    → told.status ≡ 0 → ⊥
refused_not Written notes told refused zero = let one = refused.status in absurd (omega (arith, one, zero))

module _ (law : VolumeReportsAreTrue) (spells : GivesTheVolumeItSpells) {A : Type 0} (names : List (PathBuf A))
    (had : ℕ → List ℕ → Type 0) (Says : ℕ → TextValue → Type 0) (archive : Archive) (text : List ℕ)
    (bounds : TimingBounds) (style : ReportStyle) where
  -- over consecutive volumes that show two journals
  over_spans : (r : ReadSpans) (told : CommandOutput) → ArePairRead had archive r
      → IsReportOfSpans names Says r text bounds style told → told.status ≡ 0
      → IsTrueOfRead names had archive text bounds told
  over_spans r told read (spanned.Journals journals, shows, (pair, origins, last, have, report)) zero = record {
    primary = r.primary.volumes.items;
    secondary = r.secondary.volumes.items;
    primary_read = read.primary.read;
    secondary_read = read.secondary.read;
    pair = pair;
    primary_last = last.0;
    secondary_last = last.1;
    named = (report.core.notes.items, report.told_so.notes_are);
    is_true = law r.primary.volumes.items r.secondary.volumes.items journals report.source text bounds style report.core
        shows report.is_source.primary report.is_source.secondary report.report (sym report.told_so.status ∙ zero);
  }
  over_spans r told read (spanned.Refused refusal, shows, refused) zero = absurd (refused_not _ _ told refused zero)

  over_given : (spans : SpanPair) (told : CommandOutput)
      → IsReportOverGiven names had Says archive spans text bounds style told → told.status ≡ 0
      → IsTrueOfRead names had archive text bounds told
  over_given spans told (given.Read r, read, report) zero = over_spans r told read.0 report zero
  over_given spans told (given.Missing side number, missing, refused) zero = absurd (refused_not _ _ told refused zero)

  -- over one volume of each side
  abbrev alone_read : (filed : FiledVolume) (v : VolumeSoFar) → ReadVolume
  alone_read filed v = record { filed = filed; volume = v }

  written : (filed : FiledVolume) (v : VolumeSoFar) → IsCopyOf (had filed.file) filed v → IsWrittenSoFar v
  written filed v copy = ((spells _ v).0 copy.2).0

  over_shown_at : (moment : ℕ) (told : CommandOutput) → IsReportAt names had Says archive moment text bounds style told
      → told.status ≡ 0 → IsTrueOfRead names had archive text bounds told
  over_shown_at moment told (showing.Journals pair journals, is, report) zero =
      let by = is.1 in
      let primary = alone_read pair.primary by.0 ∷ [] in
      let secondary = alone_read pair.secondary by.1 ∷ [] in
      let shows : IsShownOver primary secondary (spanned.Journals journals) =
      ((by.0).journal, (by.1).journal, refl, refl, by.4, is.2) in
      record {
        primary = primary;
        secondary = secondary;
        primary_read = (by.2, written pair.primary by.0 by.2);
        secondary_read = (by.3, written pair.secondary by.1 by.3);
        pair = pair;
        primary_last = refl;
        secondary_last = refl;
        named = (report.core.notes.items, report.told_so.notes_are);
        is_true = law primary secondary journals report.source text bounds style report.core shows
            report.is_source.primary report.is_source.secondary report.report (sym report.told_so.status ∙ zero);
      }
  over_shown_at moment told (showing.Lacking side lack, is, (why, begins, refused)) zero =
      absurd (refused_not _ _ told refused zero)

  of_claim_true : (certificate : Result Claim CertificateFault) (told : CommandOutput)
      → IsReportOfClaim names had Says archive text bounds style certificate told → told.status ≡ 0
      → IsTrueOfRead names had archive text bounds told
  of_claim_true (Ok claim) told report zero = over_shown_at claim.from told report zero
  of_claim_true (Err fault) told refused zero = absurd (refused_not _ _ told refused zero)

  pub by_true : (spans : Option SpanPair) (told : CommandOutput)
      → IsReportBy names had Says archive text bounds style spans told
      → AcceptedIsTrue names had archive text bounds told
  by_true (Some spans) told report zero = over_given spans told report zero
  by_true None told report zero = of_claim_true (certificate_of text) told report zero
