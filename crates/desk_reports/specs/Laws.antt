-- What a report that accepts a certificate says of the world.
use Rattle.std.specs.Prelude.{◌≡◌, ℕ, List, Ok}
use Rattle.journal_lines.specs.declared.line.Journal.{Journal as Lines}
use Rattle.book_rules.specs.NextHead.{AreLegal}
use Rattle.causal_order.specs.Journals.{Journals, journals_of}
use Rattle.causal_order.specs.declared.certificate.Certificate.{Certificate as Claim}
use Rattle.attribution.specs.Snapshot.{snapshots, IsTrueInRunsThatBeginSo}
use Rattle.attribution.specs.declared.verdict.Verdict.TheVariants.{Accepted}
use Rattle.pair_judgement.specs.declared.judging.Judgement.TheVariants.{Verdict}
use Rattle.report_document.specs.declared.document.Explanation.{Explanation}
use Rattle.certificate.specs.Spelling.{certificate_text}
use Rattle.journal_archive.specs.declared.pair.PairJournals.{PairJournals}
use Rattle.archive_desk.specs.declared.command_output.CommandOutput.{CommandOutput}
use Rattle.archive_desk.specs.declared.coverage_gaps.TimingBounds.{TimingBounds}
use Rattle.joined_runs.specs.Laws.{IsTrueOverVolumesSoFar}
use Rattle.volume_spans.specs.declared.reading.ReadVolume.{ReadVolume}
use Rattle.volume_spans.specs.declared.showing.SpannedJournals.TheVariants.{Journals as ShowJournals}
use Rattle.volume_spans.specs.Laws.{volumes_of}
use Rattle.volume_spans.specs.Shown.{IsShownOver}
use Rattle.desk_reports.specs.declared.style.ReportSource.{ReportSource}
use Rattle.desk_reports.specs.declared.style.ReportStyle.{ReportStyle}
use Rattle.desk_reports.specs.Explaining.{IsExplained}
use Rattle.desk_reports.specs.Told.{IsExplanationTold}

-- A certificate that a report accepts, whatever its form, is true in every run of the pair whose volumes begin as the
-- journals that were read.
abbrev pub AcceptedReportsAreTrue : Type 0
AcceptedReportsAreTrue = (a b : Lines) (skew transit : ℕ) (claim : Claim) (e : Explanation)
    → IsExplained a b skew transit claim e → e.ruling ≡ Verdict Accepted → (read : Journals)
    → journals_of a b ≡ snapshots read → IsTrueInRunsThatBeginSo AreLegal read skew transit claim

-- ---- over volumes

-- The text is a certificate, and in every run of the pair that began with these volumes, whatever volumes came before
-- them and whatever lines follow, its client held the whole prefix over the whole interval and no other client held an
-- address of it.
pub record IsTrueOver (primary secondary : List ReadVolume) (bounds : TimingBounds) (certificate : List ℕ) : Type 0 where
  pub claim : Claim
  pub spelled : certificate ≡ certificate_text claim
  pub is_true : IsTrueOverVolumesSoFar AreLegal (volumes_of primary secondary) bounds.skew bounds.transit claim

-- A certificate of which a report over the journals that volumes show is told with status 0, whatever its form, is true
-- over these volumes.
abbrev pub VolumeReportsAreTrue : Type 0
VolumeReportsAreTrue = (primary secondary : List ReadVolume) (shown : PairJournals) (source : ReportSource)
    (certificate : List ℕ) (bounds : TimingBounds) (style : ReportStyle) (told : CommandOutput)
    → IsShownOver primary secondary (ShowJournals shown) → source.pair.now.primary ≡ Ok shown.primary
    → source.pair.now.secondary ≡ Ok shown.secondary → IsExplanationTold source certificate bounds style told
    → told.status ≡ 0 → IsTrueOver primary secondary bounds certificate
