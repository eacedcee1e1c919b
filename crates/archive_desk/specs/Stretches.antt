-- What files answer to a search for the evidence of an interval.
use Rattle.std.specs.Prelude.{◌≡◌, ⊤, ℕ, ◌<◌, ◌≤◌, ◌^◌, ◌&&◌, List, [], ◌∷◌, Option, Some, None, nat_le, nat_lt}
use Rattle.std.specs.Prelude.{if◌then◌else◌}
use Rattle.plain_search.specs.declared.query.Query.{Query}
use Rattle.pair_judgement.specs.Ties.{IsWarning}
use Rattle.journal_archive.specs.declared.archive.Archive.{Archive}
use Rattle.journal_archive.specs.declared.pair.PairJournals.{PairJournals}
use Rattle.journal_archive.specs.declared.pair_lookup.VolumePair.{VolumePair}
use Rattle.journal_archive.specs.declared.spans.CoverageSpan.{CoverageSpan}
use Rattle.journal_archive.specs.PairLookups.{IsPairLookup, AreSpans}
use Rattle.archive_files.specs.Reaching.{shown_until}
use Rattle.archive_files.specs.Showing.{IsShownAt}
use Rattle.archive_files.specs.declared.showing.ShownJournals.TheVariants.{Journals as ShownJournals, Lacking as ShownLacking}
use Rattle.attribution_desk.specs.declared.search.Search.TheVariants.{Find}
use Rattle.attribution_desk.specs.Searching.{IsSearchOn}
use Rattle.archive_desk.specs.declared.stretches.EvidenceReply.{EvidenceReply}
use Rattle.archive_desk.specs.declared.stretches.EvidenceReply.TheVariants.{Answered, Lacking}
use Rattle.archive_desk.specs.declared.stretches.FoundStretch.{FoundStretch}

-- the moment, where a reading can be so great
abbrev pub reading_or : (moment other : ℕ) → ℕ
reading_or moment other = if nat_le moment (2 ^ 48) then moment else other

-- the same question of a stretch of its interval
abbrev pub stretch_of : Query → CoverageSpan → Query
stretch_of q s = record {
  holder = q.holder;
  prefix = q.prefix;
  from = reading_or s.from q.from;
  to = reading_or s.to q.to;
  skew = q.skew;
  transit = q.transit;
}

-- as far as the two journals reach, where they end within it
abbrev pub cut_at : Option ℕ → Query → Query
cut_at None q = q
cut_at (Some until) q =
    if nat_lt q.from until && nat_lt until q.to then record q { to = reading_or until q.to } else q

-- The desk's answer over the journals that two volumes show, as far as these reach, the warnings on them, and how far
-- they reach.
abbrev pub IsEvidenceOver : VolumePair → PairJournals → Query → EvidenceReply → Type 0
IsEvidenceOver pair shown q (Answered of answer warnings until) =
    (of ≡ pair) × IsSearchOn shown.primary shown.secondary (Find (cut_at (shown_until q.skew shown) q)) answer
    × IsWarning shown.primary shown.secondary q.skew q.transit warnings.items
    × (until ≡ shown_until q.skew shown)
IsEvidenceOver pair shown q (Lacking side lack) = ⊥

-- that over the pair of volumes which shows the moment; or which side lacks it, and why
abbrev pub IsFoundAt : (had : ℕ → List ℕ → Type 0) → Archive → (moment : ℕ) → Query → EvidenceReply → Type 0
IsFoundAt had archive moment q (Answered pair answer warnings until) =
    (shown : PairJournals) × IsShownAt had archive q.skew q.transit moment (ShownJournals pair shown)
    × IsEvidenceOver pair shown q (Answered pair answer warnings until)
IsFoundAt had archive moment q (Lacking side lack) =
    IsShownAt had archive q.skew q.transit moment (ShownLacking side lack)

-- one stretch, up to its end
abbrev pub IsStretch : (had : ℕ → List ℕ → Type 0) → Archive → Query → CoverageSpan → FoundStretch → Type 0
IsStretch had archive q span found =
    IsFoundAt had archive span.from (stretch_of q span) found.reply × (found.end ≡ span.to)

-- each of them, in order
abbrev pub AreStretches : (had : ℕ → List ℕ → Type 0) → Archive → Query → List CoverageSpan → List FoundStretch → Type 0
AreStretches had archive q [] [] = ⊤
AreStretches had archive q (s ∷ ss) (f ∷ fs) = IsStretch had archive q s f × AreStretches had archive q ss fs
AreStretches had archive q [] (f ∷ fs) = ⊥
AreStretches had archive q (s ∷ ss) [] = ⊥

-- The stretches lie end to end from the interval's beginning to its end. Where it has no moment, it is asked of as it
-- is.
pub record IsEvidence (had : ℕ → List ℕ → Type 0) (archive : Archive) (q : Query) (stretches : List FoundStretch)
    : Type 0 where
  pub each : q.from < q.to → (spans : List CoverageSpan)
      × AreSpans (IsPairLookup archive.primary archive.secondary q.skew q.transit) q.from q.to spans
      × AreStretches had archive q spans stretches
  pub empty : q.to ≤ q.from → (reply : EvidenceReply) × IsFoundAt had archive q.from q reply
      × (stretches ≡ record { reply = reply; end = q.from } ∷ [])
