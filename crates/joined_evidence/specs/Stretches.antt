-- What files answer to a search for the evidence of an interval, over the volumes that show its stretches and earlier
-- ones.
use Rattle.std.specs.Prelude.{◌≡◌, ◌⊎◌, ⊤, ℕ, ◌<◌, ◌≤◌, List, [], ◌∷◌, Some, None}
use Rattle.std.specs.declared.path.buf.PathBuf.{PathBuf}
use Rattle.plain_search.specs.declared.query.Query.{Query}
use Rattle.journal_archive.specs.declared.archive.Archive.{Archive}
use Rattle.journal_archive.specs.declared.spans.CoverageSpan.{CoverageSpan}
use Rattle.journal_archive.specs.PairLookups.{IsPairLookup, AreSpans}
use Rattle.archive_files.specs.declared.cataloguing.Catalogue.{Catalogue}
use Rattle.archive_files.specs.declared.settings_check.SettingsScope.TheVariants.{OfEach}
use Rattle.archive_files.specs.Catalogues.{IsCatalogue}
use Rattle.archive_files.specs.Ties.{AreTied}
use Rattle.attribution_desk.specs.declared.finding.Finding.{Finding}
use Rattle.attribution_desk.specs.declared.finding.Finding.TheVariants.{NoneFound}
use Rattle.attribution_desk.specs.declared.search_answer.SearchAnswer.{SearchAnswer}
use Rattle.attribution_desk.specs.declared.search_answer.SearchAnswer.TheVariants.{Refused, Found}
use Rattle.archive_desk.specs.declared.stretches.EvidenceReply.{EvidenceReply}
use Rattle.archive_desk.specs.declared.stretches.EvidenceReply.TheVariants.{Answered, Lacking}
use Rattle.archive_desk.specs.Stretches.{stretch_of, IsFoundAt}
use Rattle.archive_desk.specs.Unread.{AllRead}
use Rattle.joined_evidence.specs.declared.stretches.SpannedStretch.{SpannedStretch}
use Rattle.joined_evidence.specs.declared.stretches.SpannedStretch.TheVariants.{Own, Joined}
use Rattle.joined_evidence.specs.declared.stretches.SpannedEvidence.{SpannedEvidence}
use Rattle.joined_evidence.specs.Walking.{IsTried}
use Rattle.joined_evidence.specs.Truth.{AreTrueStretches}

-- ---- over its own pair of volumes

abbrev pub IsNoneFound : Finding → Type 0
IsNoneFound NoneFound = ⊤
IsNoneFound _ = ⊥

abbrev pub AnswersNone : SearchAnswer → Type 0
AnswersNone (Found f) = IsNoneFound f
AnswersNone (Refused r) = ⊥

-- nothing stands against the pair, and it has no evidence
abbrev pub FindsNothing : EvidenceReply → Type 0
FindsNothing (Answered pair answer warnings until) = AnswersNone answer
FindsNothing (Lacking side lack) = ⊥

-- ---- over spans, where that finds nothing

-- What its own pair answers, where that isn't that it finds nothing, or no spans find anything that are tried; or else
-- the evidence over the first that do.
abbrev pub IsStretchAt : (had : ℕ → List ℕ → Type 0) → Archive → (moment : ℕ) → Query → (end : ℕ)
    → SpannedStretch → Type 0
IsStretchAt had archive moment q end (Own found) =
    IsFoundAt had archive moment q found.reply × (found.end ≡ end)
    × ((FindsNothing found.reply → ⊥) ⊎ IsTried had archive q None)
IsStretchAt had archive moment q end (Joined e stop) =
    ((own : EvidenceReply) × IsFoundAt had archive moment q own × FindsNothing own)
    × IsTried had archive q (Some e) × (stop ≡ end)

-- each of them, in order
abbrev pub AreStretches : (had : ℕ → List ℕ → Type 0) → Archive → Query → List CoverageSpan
    → List SpannedStretch → Type 0
AreStretches had archive q [] [] = ⊤
AreStretches had archive q (s ∷ ss) (f ∷ fs) =
    IsStretchAt had archive s.from (stretch_of q s) s.to f × AreStretches had archive q ss fs
AreStretches had archive q [] (f ∷ fs) = ⊥
AreStretches had archive q (s ∷ ss) [] = ⊥

-- The stretches lie end to end from the interval's beginning to its end. Where it has no moment, it is asked of as it
-- is.
pub record IsEvidence (had : ℕ → List ℕ → Type 0) (archive : Archive) (q : Query) (stretches : List SpannedStretch)
    : Type 0 where
  pub each : q.from < q.to → (spans : List CoverageSpan)
      × AreSpans (IsPairLookup archive.primary archive.secondary q.skew q.transit) q.from q.to spans
      × AreStretches had archive q spans stretches
  pub empty : q.to ≤ q.from → (stretch : SpannedStretch) × IsStretchAt had archive q.from q q.from stretch
      × (stretches ≡ stretch ∷ [])

-- over the volumes that so many files are, none of which is unknown since its file can't be read, and with the other
-- files; and what is found over spans is true
pub record IsSpannedEvidence {A : Type 0} (had : ℕ → List ℕ → Type 0) (count : ℕ) (names : List (PathBuf A)) (q : Query)
    (answer : SpannedEvidence) : Type 0 where
  pub catalogue : Catalogue
  pub is_catalogue : IsCatalogue had count catalogue
  pub tied : AreTied had OfEach catalogue.archive.primary catalogue.archive.secondary
  pub read : AllRead names catalogue.passed_over.items
  pub passed : answer.passed_over ≡ catalogue.passed_over
  pub asked : answer.query ≡ q
  pub evidence : IsEvidence had catalogue.archive q answer.stretches.items
  pub accepted : AreTrueStretches had catalogue.archive q answer.stretches.items
