-- What comes of a certificate, put together.
use Rattle.std.specs.Prelude.{◌≡◌, ℕ, ◌-◌, List, Option, Some, None, Result, Ok, Err, IfOk}
use Rattle.std.proofs.Common.{sym, subst, refl, inl, inr}
use Rattle.journal_lines.specs.declared.line.Journal.{Journal}
use Rattle.causal_order.specs.Journals.{Journals, journals_of}
use Rattle.causal_order.specs.declared.certificate.Certificate.{Certificate as Claim}
use Rattle.causal_order.specs.declared.fault.CertificateFault.{CertificateFault}
use Rattle.pair_judgement.specs.PairJudgements.{IsFit}
use Rattle.plain_search.specs.declared.query.HolderQuery.{HolderQuery}
use Rattle.journal_archive.specs.declared.archive.Archive.{Archive}
use Rattle.archive_files.specs.declared.error.FilesError.{FilesError}
use Rattle.archive_desk.specs.declared.coverage_gaps.TimingBounds.{TimingBounds}
use Rattle.joined_answers.specs.declared.starting.MomentSpans.TheVariants.{Read}
use Rattle.joined_answers.specs.Reach.{reach}
use Rattle.joined_answers.specs.Starting.{AreMomentSpans}
use Rattle.volume_spans.specs.declared.span.SpanPair.{SpanPair}
use Rattle.volume_spans.specs.declared.spans.ReadSpans.{ReadSpans}
use Rattle.volume_spans.specs.declared.spans.GivenSpans.TheVariants.{Read as ReadOf}
use Rattle.volume_spans.specs.Spans.{AreGiven}
use Rattle.joined_rulings.specs.declared.judged.JournalTrial.{JournalTrial}
use Rattle.joined_rulings.specs.declared.judged.JournalTrial.TheVariants.{Accepted, Carried, Refused, Barred}
use Rattle.joined_rulings.specs.declared.trial.SpanAcceptance.{SpanAcceptance}
use Rattle.joined_rulings.specs.Trials.{IsOpenTrial, IsJournalTrial}
use Rattle.joined_rulings.specs.Walking.{IsWalk}
use Rattle.joined_rulings.specs.Between.{AreSpansBetween, AreWithinReach, IsAnswerBy, IsTriedOver}
use Rattle.joined_rulings.specs.Trying.{asked_at, AreShownSpans, IsTriedAt, IsTriedWithin, IsTriedBehind}
use Rattle.joined_rulings.specs.Trying.{IsTriedBetween, IsTriedLater, IsTried}
use Rattle.joined_rulings.specs.Rulings.{NoneAccept, IsJoinedRuling}

-- nothing stands against the two journals
pub open_so : (a b : Journal) (q : HolderQuery) (c : Claim) (js : Journals) (trial : JournalTrial) → IsFit a b q.skew
    → js ≡ journals_of a b → IsOpenTrial js q c trial → IsJournalTrial a b q c trial
open_so a b q c js Accepted fit same is = (fit, subst (λ (x : Journals). IsOpenTrial x q c Accepted) same is)
open_so a b q c js Carried fit same is = (fit, subst (λ (x : Journals). IsOpenTrial x q c Carried) same is)
open_so a b q c js Refused fit same is = (fit, subst (λ (x : Journals). IsOpenTrial x q c Refused) same is)
open_so a b q c js Barred fit same is = absurd is

module _ (had : ℕ → List ℕ → Type 0) (archive : Archive) where
  -- what comes of the moment's own spans comes of the moment
  pub walked_so : (q : HolderQuery) (c : Claim) (r : ReadSpans)
      → AreMomentSpans had archive q.skew q.transit q.at (Read r)
      → (end : Result (Option SpanAcceptance) FilesError)
      → IfOk end (λ (x : Option SpanAcceptance). (times : ℕ) × IsWalk had archive q c times r x)
      → IfOk end (IsTriedAt had archive q c)
  walked_so q c r moment (Ok end) walk = inl (r, walk.0, moment, walk.1)
  walked_so q c r moment (Err error) walk = tt

  -- what spans that were read answer
  pub over_so : (spans : SpanPair) (q : HolderQuery) (c : Claim) (r : ReadSpans) → AreGiven had archive spans (ReadOf r)
      → (end : Result (Option SpanAcceptance) FilesError) → IfOk end (IsAnswerBy r q c)
      → IfOk end (IsTriedOver had archive spans q c)
  over_so spans q c r given (Ok end) answer = inl (r, given, answer)
  over_so spans q c r given (Err error) answer = tt

  -- by the settings of the moment's own volumes
  pub behind_so : (spans : SpanPair) (q : HolderQuery) (c : Claim) (r : ReadSpans) → AreShownSpans had archive q (Some r)
      → (end : Result (Option SpanAcceptance) FilesError) → IfOk end (IsTriedWithin had archive spans r q c)
      → IfOk end (IsTriedBehind had archive spans q c)
  behind_so spans q c r are (Ok end) tried = inl (r, are, tried)
  behind_so spans q c r are (Err error) tried = tt

  -- within reach
  pub within_so : (spans : SpanPair) (r : ReadSpans) (q : HolderQuery) (c : Claim)
      → AreWithinReach archive spans q.at (reach q r) → (end : Result (Option SpanAcceptance) FilesError)
      → IfOk end (IsTriedOver had archive spans q c) → IfOk end (IsTriedWithin had archive spans r q c)
  within_so spans r q c within (Ok end) tried = inl (within, tried)
  within_so spans r q c within (Err error) tried = tt

  -- the volumes between the interval's first moment and its last
  pub between_so : (bounds : TimingBounds) (c : Claim) (last : ℕ) (query : HolderQuery) → last ≡ c.to - 1
      → query ≡ asked_at c bounds last → (spans : SpanPair) → AreSpansBetween archive bounds c.from last (Some spans)
      → (end : Result (Option SpanAcceptance) FilesError) → IfOk end (IsTriedBehind had archive spans query c)
      → IfOk end (IsTriedBetween had archive bounds c)
  between_so bounds c last query is_last is_query spans between (Ok end) tried = inl (
    spans,
    subst (λ (n : ℕ). AreSpansBetween archive bounds c.from n (Some spans)) is_last between,
    subst (λ (n : ℕ). IsTriedBehind had archive spans (asked_at c bounds n) c end) is_last
        (subst (λ (q : HolderQuery). IsTriedBehind had archive spans q c end) is_query tried),
  )
  between_so bounds c last query is_last is_query spans between (Err error) tried = tt

  -- the interval's last moment, and then the volumes between
  pub later_so : (bounds : TimingBounds) (c : Claim) (last : HolderQuery) → last ≡ asked_at c bounds (c.to - 1)
      → IsTriedAt had archive last c None → (end : Result (Option SpanAcceptance) FilesError)
      → IfOk end (IsTriedBetween had archive bounds c) → IfOk end (IsTriedLater had archive bounds c)
  later_so bounds c last is_last none (Ok end) tried =
      inr (subst (λ (q : HolderQuery). IsTriedAt had archive q c None) is_last none, tried)
  later_so bounds c last is_last none (Err error) tried = tt

  -- the interval's first moment, and then what comes later
  pub first_so : (bounds : TimingBounds) (c : Claim) (first : HolderQuery) → first ≡ asked_at c bounds c.from
      → IsTriedAt had archive first c None → (end : Result (Option SpanAcceptance) FilesError)
      → IfOk end (IsTriedLater had archive bounds c) → IfOk end (IsTried had archive bounds c)
  first_so bounds c first is_first none (Ok end) tried =
      inr (subst (λ (q : HolderQuery). IsTriedAt had archive q c None) is_first none, tried)
  first_so bounds c first is_first none (Err error) tried = tt

  pub joined_on : (bounds : TimingBounds) (certificate : Result Claim CertificateFault) (c : Claim)
      → certificate ≡ Ok c → (a : SpanAcceptance) → IsTried had archive bounds c (Some a)
      → IsJoinedRuling had archive bounds certificate a.ruling
  joined_on bounds certificate c is a tried =
      subst (λ (r : Result Claim CertificateFault). IsJoinedRuling had archive bounds r a.ruling) (sym is)
      (a, refl, tried)

  pub none_on : (bounds : TimingBounds) (certificate : Result Claim CertificateFault) (c : Claim)
      → certificate ≡ Ok c → IsTried had archive bounds c None → NoneAccept had archive bounds certificate
  none_on bounds certificate c is tried =
      subst (λ (r : Result Claim CertificateFault). NoneAccept had archive bounds r) (sym is) tried
