-- Certificates, ruled over given volumes of both sides.
use Rattle.std.specs.Prelude.{◌≡◌, ℕ, List, Ok}
use Rattle.std.specs.declared.path.buf.PathBuf.{PathBuf}
use Rattle.pair_judgement.specs.declared.judging.Judgement.{Judgement}
use Rattle.pair_judgement.specs.Ties.{IsWarning}
use Rattle.attribution_desk.specs.Batch.{AreRuled}
use Rattle.journal_archive.specs.declared.archive.Archive.{Archive}
use Rattle.journal_archive.specs.declared.pair.PairJournals.{PairJournals}
use Rattle.archive_files.specs.declared.cataloguing.Catalogue.{Catalogue}
use Rattle.archive_files.specs.declared.settings_check.SettingsScope.TheVariants.{OfEach}
use Rattle.archive_files.specs.Catalogues.{IsCatalogue}
use Rattle.archive_files.specs.Ties.{AreTied}
use Rattle.archive_desk.specs.declared.coverage_gaps.TimingBounds.{TimingBounds}
use Rattle.archive_desk.specs.Unread.{AllRead}
use Rattle.volume_spans.specs.declared.span.SpanPair.{SpanPair}
use Rattle.volume_spans.specs.declared.spans.ReadSpans.{ReadSpans}
use Rattle.volume_spans.specs.declared.spans.GivenSpans.TheVariants.{Missing as SpansMissing}
use Rattle.volume_spans.specs.declared.showing.SpannedJournals.TheVariants.{Journals as ShowJournals}
use Rattle.volume_spans.specs.declared.showing.SpannedJournals.TheVariants.{Refused as ShowRefused}
use Rattle.volume_spans.specs.Spans.{ArePairRead, AreGiven, pair_of, IsLastPair}
use Rattle.joined_rulings.specs.declared.given.GivenRulings.{GivenRulings}
use Rattle.joined_rulings.specs.declared.given.GivenReply.{GivenReply}
use Rattle.joined_rulings.specs.declared.given.GivenReply.TheVariants.{Ruled, Missing, Refused}
use Rattle.joined_rulings.specs.declared.given.GivenAudit.{GivenAudit}
use Rattle.joined_rulings.specs.Trials.{AreShownBySpans}

-- on each of the texts its ruling, over two journals
abbrev pub AreRuledBy : PairJournals → TimingBounds → List (List ℕ) → List Judgement → Type 0
AreRuledBy shown bounds texts rulings =
    AreRuled (Ok shown.primary) (Ok shown.secondary) bounds.skew bounds.transit texts rulings

-- over the journals that the spans show, with the warnings on these
pub record AreGivenRulings (r : ReadSpans) (bounds : TimingBounds) (texts : List (List ℕ)) (g : GivenRulings) : Type 0
  where
    pub spans : g.spans ≡ pair_of r
    pub last : IsLastPair r g.pair
    pub shown : PairJournals
    pub is_shown : AreShownBySpans r (ShowJournals shown)
    pub ruled : AreRuledBy shown bounds texts g.rulings.items
    pub warned : IsWarning shown.primary shown.secondary bounds.skew bounds.transit g.warnings.items

-- the volumes that are asked for were read
pub record AreAsked (had : ℕ → List ℕ → Type 0) (archive : Archive) (spans : SpanPair) (r : ReadSpans) : Type 0 where
  pub read : ArePairRead had archive r
  pub given : pair_of r ≡ spans

-- the rulings over the volumes that are asked for; or which of these is missing; or why those of a side aren't one
-- journal
abbrev pub IsGivenReply : (had : ℕ → List ℕ → Type 0) → Archive → SpanPair → TimingBounds → List (List ℕ) → GivenReply
    → Type 0
IsGivenReply had archive spans bounds texts (Ruled g) =
    (r : ReadSpans) × AreAsked had archive spans r × AreGivenRulings r bounds texts g
IsGivenReply had archive spans bounds texts (Missing side number) =
    AreGiven had archive spans (SpansMissing side number)
IsGivenReply had archive spans bounds texts (Refused refusal) =
    (r : ReadSpans) × AreAsked had archive spans r × AreShownBySpans r (ShowRefused refusal)

-- of the volumes that so many files are, none of which is unknown since its file can't be read, and with the other
-- files
pub record IsGivenAudit {A : Type 0} (had : ℕ → List ℕ → Type 0) (count : ℕ) (names : List (PathBuf A))
    (spans : SpanPair) (texts : List (List ℕ)) (bounds : TimingBounds) (audit : GivenAudit) : Type 0 where
  pub catalogue : Catalogue
  pub is_catalogue : IsCatalogue had count catalogue
  pub tied : AreTied had OfEach catalogue.archive.primary catalogue.archive.secondary
  pub read : AllRead names catalogue.passed_over.items
  pub passed : audit.passed_over ≡ catalogue.passed_over
  pub replied : IsGivenReply had catalogue.archive spans bounds texts audit.reply
