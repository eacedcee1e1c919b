-- What a search for evidence comes to over the journals that spans of volumes show.
use Rattle.std.specs.Prelude.{◌≡◌, ◌⊎◌, List, Option, Some, None}
use Rattle.journal_lines.specs.declared.line.Journal.{Journal}
use Rattle.causal_order.specs.Journals.{Journals, journals_of}
use Rattle.causal_order.specs.declared.certificate.Certificate.{Certificate}
use Rattle.pair_judgement.specs.declared.judging.Judgement.{Judgement}
use Rattle.pair_judgement.specs.PairJudgements.{IsRuledOut, IsFit}
use Rattle.pair_judgement.specs.Ties.{IsWarning}
use Rattle.plain_search.specs.declared.query.Query.{Query}
use Rattle.plain_search.specs.declared.query.HolderQuery.{HolderQuery}
use Rattle.candidate_leases.specs.declared.candidates.CandidateLease.{CandidateLease}
use Rattle.candidate_leases.specs.Conditions.{asked_of}
use Rattle.candidate_leases.specs.Leases.{AreNearLeases}
use Rattle.journal_archive.specs.declared.pair.PairJournals.{PairJournals}
use Rattle.archive_files.specs.Reaching.{shown_until}
use Rattle.attribution_desk.specs.declared.finding.Finding.{Finding}
use Rattle.attribution_desk.specs.declared.finding.Finding.TheVariants.{Shown as IsShown}
use Rattle.attribution_desk.specs.declared.search_answer.SearchAnswer.{SearchAnswer}
use Rattle.attribution_desk.specs.declared.search_answer.SearchAnswer.TheVariants.{Refused as IsRefused}
use Rattle.attribution_desk.specs.declared.search_answer.SearchAnswer.TheVariants.{Found as IsFoundOf}
use Rattle.attribution_desk.specs.Find.{IsFound, IsFinding}
use Rattle.archive_desk.specs.Stretches.{cut_at}
use Rattle.joined_answers.specs.Answers.{HasCarried}
use Rattle.volume_spans.specs.declared.refusal.JoinRefusal.{JoinRefusal}
use Rattle.volume_spans.specs.declared.spans.ReadSpans.{ReadSpans}
use Rattle.volume_spans.specs.declared.showing.SpannedJournals.TheVariants.{Journals as ShowJournals}
use Rattle.volume_spans.specs.declared.showing.SpannedJournals.TheVariants.{Refused as ShowRefused}
use Rattle.volume_spans.specs.Spans.{pair_of, IsLastPair}
use Rattle.joined_rulings.specs.Trials.{AreShownBySpans}
use Rattle.joined_evidence.specs.declared.searched.JournalSearch.{JournalSearch}
use Rattle.joined_evidence.specs.declared.searched.JournalSearch.TheVariants.{Shown, Carried as Carries, NotShown}
use Rattle.joined_evidence.specs.declared.searched.JournalSearch.TheVariants.{Barred as Bars}
use Rattle.joined_evidence.specs.declared.span_searching.SpanEvidence.{SpanEvidence}
use Rattle.joined_evidence.specs.declared.span_searching.SpanSearch.{SpanSearch}
use Rattle.joined_evidence.specs.declared.span_searching.SpanSearch.TheVariants.{Found, Carried, NotFound, Barred}

-- ---- over two journals

-- the certificate that is given, if one is
abbrev pub certificate_by : Finding → Option Certificate
certificate_by (IsShown c) = Some c
certificate_by _ = None

abbrev pub certificate_in : SearchAnswer → Option Certificate
certificate_in (IsFoundOf f) = certificate_by f
certificate_in (IsRefused r) = None

-- none is given, and these are the leases of the prefix near the moment
pub record IsNotGivenWith (js : Journals) (q : Query) (h : HolderQuery) (leases : List CandidateLease) : Type 0 where
  pub finding : Finding
  pub is_finding : IsFinding js q finding
  pub none : certificate_by finding ≡ None
  pub near : AreNearLeases js h.prefix (asked_of h) leases

-- over journals against which nothing stands
abbrev pub IsOpenSearch : Journals → Query → HolderQuery → JournalSearch → Type 0
IsOpenSearch js q h (Shown c) = IsFound js q c
IsOpenSearch js q h Carries = (leases : List CandidateLease) × IsNotGivenWith js q h leases × HasCarried leases
IsOpenSearch js q h NotShown = (leases : List CandidateLease) × IsNotGivenWith js q h leases × (HasCarried leases → ⊥)
IsOpenSearch js q h Bars = ⊥

-- what stands against two journals, or else what the search comes to over them
abbrev pub IsJournalSearch : Journal → Journal → Query → HolderQuery → JournalSearch → Type 0
IsJournalSearch a b q h Bars = (ruling : Judgement) × IsRuledOut a b q.skew ruling
IsJournalSearch a b q h search = IsFit a b q.skew × IsOpenSearch (journals_of a b) q h search

-- ---- over spans

-- the evidence over the journals that the spans show, as far as these reach
pub record IsSpanEvidence (r : ReadSpans) (q : Query) (e : SpanEvidence) : Type 0 where
  pub spans : e.spans ≡ pair_of r
  pub last : IsLastPair r e.pair
  pub shown : PairJournals
  pub is_shown : AreShownBySpans r (ShowJournals shown)
  pub until : e.until ≡ shown_until q.skew shown
  pub fit : IsFit shown.primary shown.secondary (cut_at (shown_until q.skew shown) q).skew
  pub found : IsFound (journals_of shown.primary shown.secondary) (cut_at (shown_until q.skew shown) q) e.certificate
  pub warned : IsWarning shown.primary shown.secondary q.skew q.transit e.warnings.items

-- so it is with the journals that the spans show, as far as these reach
abbrev pub IsShownSearch : ReadSpans → Query → HolderQuery → JournalSearch → Type 0
IsShownSearch r q h search =
    (shown : PairJournals) × AreShownBySpans r (ShowJournals shown)
    × IsJournalSearch shown.primary shown.secondary (cut_at (shown_until q.skew shown) q) h search

-- what the search comes to over the spans
abbrev pub IsSpanSearch : ReadSpans → Query → HolderQuery → SpanSearch → Type 0
IsSpanSearch r q h (Found e) = IsSpanEvidence r q e
IsSpanSearch r q h Carried = IsShownSearch r q h Carries
IsSpanSearch r q h NotFound = IsShownSearch r q h NotShown
IsSpanSearch r q h Barred =
    ((refusal : JoinRefusal) × AreShownBySpans r (ShowRefused refusal)) ⊎ IsShownSearch r q h Bars
