-- What is ruled on a certificate over the journals that spans of volumes show.
use Rattle.std.specs.Prelude.{◌≡◌, ◌≢◌, ◌⊎◌, List}
use Rattle.journal_lines.specs.declared.line.Journal.{Journal}
use Rattle.causal_order.specs.Journals.{Journals, journals_of}
use Rattle.causal_order.specs.declared.certificate.Certificate.{Certificate as Claim}
use Rattle.attribution.specs.declared.verdict.Verdict.{Verdict}
use Rattle.attribution.specs.declared.verdict.Verdict.TheVariants.{Accepted as VerdictAccepted}
use Rattle.attribution.specs.FirstRefusal.{IsVerdict}
use Rattle.pair_judgement.specs.declared.judging.Judgement.{Judgement}
use Rattle.pair_judgement.specs.declared.judging.Judgement.TheVariants.{Verdict as IsVerdictOf}
use Rattle.pair_judgement.specs.PairJudgements.{IsRuledOut, IsFit}
use Rattle.pair_judgement.specs.Ties.{IsWarning}
use Rattle.plain_search.specs.declared.query.HolderQuery.{HolderQuery}
use Rattle.candidate_leases.specs.declared.candidates.CandidateLease.{CandidateLease}
use Rattle.candidate_leases.specs.Conditions.{asked_of}
use Rattle.candidate_leases.specs.Leases.{AreNearLeases}
use Rattle.journal_archive.specs.declared.pair.PairJournals.{PairJournals}
use Rattle.attribution_desk.specs.Judgements.{IsJudgementOfJournals}
use Rattle.joined_answers.specs.Answers.{HasCarried}
use Rattle.volume_spans.specs.declared.refusal.JoinRefusal.{JoinRefusal}
use Rattle.volume_spans.specs.declared.spans.ReadSpans.{ReadSpans}
use Rattle.volume_spans.specs.declared.showing.SpannedJournals.{SpannedJournals}
use Rattle.volume_spans.specs.declared.showing.SpannedJournals.TheVariants.{Journals as ShowJournals}
use Rattle.volume_spans.specs.declared.showing.SpannedJournals.TheVariants.{Refused as ShowRefused}
use Rattle.volume_spans.specs.Shown.{IsShownOver}
use Rattle.volume_spans.specs.Spans.{pair_of, IsLastPair}
use Rattle.joined_rulings.specs.declared.judged.JournalTrial.{JournalTrial}
use Rattle.joined_rulings.specs.declared.judged.JournalTrial.TheVariants.{Accepted as Accepts, Carried as Carries}
use Rattle.joined_rulings.specs.declared.judged.JournalTrial.TheVariants.{Refused as Refuses, Barred as Bars}
use Rattle.joined_rulings.specs.declared.trial.SpanAcceptance.{SpanAcceptance}
use Rattle.joined_rulings.specs.declared.trial.SpanTrial.{SpanTrial}
use Rattle.joined_rulings.specs.declared.trial.SpanTrial.TheVariants.{Accepted, Carried, Refused, Barred}

-- ---- over two journals

-- the certificate is refused, and these are the leases of the prefix near the moment
pub record IsRefusedWith (js : Journals) (q : HolderQuery) (c : Claim) (leases : List CandidateLease) : Type 0 where
  pub verdict : Verdict
  pub is_verdict : IsVerdict js q.skew q.transit c verdict
  pub refuses : verdict ≢ VerdictAccepted
  pub near : AreNearLeases js q.prefix (asked_of q) leases

-- over journals against which nothing stands
abbrev pub IsOpenTrial : Journals → HolderQuery → Claim → JournalTrial → Type 0
IsOpenTrial js q c Accepts = IsVerdict js q.skew q.transit c VerdictAccepted
IsOpenTrial js q c Carries = (leases : List CandidateLease) × IsRefusedWith js q c leases × HasCarried leases
IsOpenTrial js q c Refuses = (leases : List CandidateLease) × IsRefusedWith js q c leases × (HasCarried leases → ⊥)
IsOpenTrial js q c Bars = ⊥

-- what stands against two journals, or else what comes of the certificate over them
abbrev pub IsJournalTrial : Journal → Journal → HolderQuery → Claim → JournalTrial → Type 0
IsJournalTrial a b q c Bars = (ruling : Judgement) × IsRuledOut a b q.skew ruling
IsJournalTrial a b q c trial = IsFit a b q.skew × IsOpenTrial (journals_of a b) q c trial

-- ---- over spans

abbrev pub AreShownBySpans : ReadSpans → SpannedJournals → Type 0
AreShownBySpans r shown = IsShownOver r.primary.volumes.items r.secondary.volumes.items shown

-- the desk accepts the certificate over the journals that the spans show
pub record IsAcceptance (r : ReadSpans) (q : HolderQuery) (c : Claim) (a : SpanAcceptance) : Type 0 where
  pub spans : a.ruling.spans ≡ pair_of r
  pub last : IsLastPair r a.ruling.pair
  pub is_shown : AreShownBySpans r (ShowJournals a.shown)
  pub judged : IsJudgementOfJournals a.shown.primary a.shown.secondary q.skew q.transit c (IsVerdictOf VerdictAccepted)
  pub warned : IsWarning a.shown.primary a.shown.secondary q.skew q.transit a.ruling.warnings.items

-- so it is with the journals that the spans show
abbrev pub IsShownTrial : ReadSpans → HolderQuery → Claim → JournalTrial → Type 0
IsShownTrial r q c trial =
    (shown : PairJournals) × AreShownBySpans r (ShowJournals shown)
    × IsJournalTrial shown.primary shown.secondary q c trial

-- what comes of the certificate over the spans
abbrev pub IsTrial : ReadSpans → HolderQuery → Claim → SpanTrial → Type 0
IsTrial r q c (Accepted a) = IsAcceptance r q c a
IsTrial r q c Carried = IsShownTrial r q c Carries
IsTrial r q c Refused = IsShownTrial r q c Refuses
IsTrial r q c Barred =
    ((refusal : JoinRefusal) × AreShownBySpans r (ShowRefused refusal)) ⊎ IsShownTrial r q c Bars
