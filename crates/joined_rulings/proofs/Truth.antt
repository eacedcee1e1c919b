-- What is accepted over volumes is true of the pair that left them.
use Rattle.std.specs.Prelude.{◌≡◌, ℕ, ◌-◌, zero, suc, List, [], ◌∷◌, Some, Result, Ok, Err}
use Rattle.std.proofs.Common.{sym, subst, inl, inr}
use Rattle.journal_lines.specs.declared.line.Journal.{Journal}
use Rattle.causal_order.specs.Journals.{journals_of}
use Rattle.causal_order.specs.declared.certificate.Certificate.{Certificate as Claim}
use Rattle.causal_order.specs.declared.fault.CertificateFault.{CertificateFault}
use Rattle.certificate.specs.Faults.{certificate_of}
use Rattle.attribution.specs.Acceptance.{IsAccepted}
use Rattle.attribution.specs.FirstRefusal.{AcceptsTheAccepted}
use Rattle.attribution.specs.declared.verdict.Verdict.TheVariants.{Accepted as VerdictAccepted}
use Rattle.auditor.proofs.Pairs.{refused_not_accepted}
use Rattle.pair_judgement.specs.declared.judging.Judgement.{Judgement}
use Rattle.pair_judgement.specs.declared.judging.Judgement.TheVariants.{Verdict}
use Rattle.plain_search.specs.declared.query.HolderQuery.{HolderQuery}
use Rattle.journal_archive.specs.declared.archive.Archive.{Archive}
use Rattle.journal_archive.specs.declared.pair.PairJournals.{PairJournals}
use Rattle.attribution_desk.specs.Judgements.{IsJudgementOfJournals, IsJudgementOfParsed}
use Rattle.archive_desk.specs.declared.coverage_gaps.TimingBounds.{TimingBounds}
use Rattle.archive_desk.specs.declared.judging.ArchiveJudgement.{ArchiveJudgement}
use Rattle.archive_desk.specs.Certificates.{AreJudged}
use Rattle.archive_desk.specs.Judging.{AcceptedClaimIsTrue}
use Rattle.volume_spans.specs.declared.showing.SpannedJournals.TheVariants.{Journals as ShowJournals}
use Rattle.volume_spans.specs.declared.span.SpanPair.{SpanPair}
use Rattle.volume_spans.specs.declared.spans.ReadSpans.{ReadSpans}
use Rattle.volume_spans.specs.Laws.{AcceptedOverSpansIsTrue}
use Rattle.volume_spans.specs.Spans.{ArePairRead}
use Rattle.joined_rulings.specs.declared.trial.SpanAcceptance.{SpanAcceptance}
use Rattle.joined_rulings.specs.declared.trial.SpanRuling.{SpanRuling}
use Rattle.joined_rulings.specs.declared.widest.CertificateRuling.{CertificateRuling}
use Rattle.joined_rulings.specs.declared.widest.CertificateRuling.TheVariants.{Own, Joined}
use Rattle.joined_rulings.specs.declared.trial.SpanTrial.{SpanTrial}
use Rattle.joined_rulings.specs.declared.trial.SpanTrial.TheVariants.{Accepted, Carried, Refused, Barred}
use Rattle.joined_rulings.specs.Trials.{AreShownBySpans, IsAcceptance, IsTrial}
use Rattle.joined_rulings.specs.Walking.{accepted_of, IsWalk}
use Rattle.joined_rulings.specs.Between.{IsTriedOver}
use Rattle.joined_rulings.specs.Trying.{asked_at, IsTriedAt, IsTriedWithin, IsTriedBehind, IsTriedBetween}
use Rattle.joined_rulings.specs.Trying.{IsTriedLater, IsTried}
use Rattle.joined_rulings.specs.Rulings.{IsRulingOn, AreRulings}
use Rattle.joined_rulings.specs.Given.{AreRuledBy}
use Rattle.joined_rulings.specs.Truth.{IsTrueOverSpans, IsTrueOverItsSpans, IsTrueRuling, AreTrueRulings}
use Rattle.joined_rulings.specs.Laws.{AcceptedIsTrue, IsTrueOfGiven, AreTrueOfGiven, GivenRulingsAreTrue}

-- what the desk accepts over two journals is accepted
pub accepted_by : AcceptsTheAccepted → (a b : Journal) (skew transit : ℕ) (c : Claim)
    → IsJudgementOfJournals a b skew transit c (Verdict VerdictAccepted) → IsAccepted (journals_of a b) skew transit c
accepted_by accepts a b skew transit c (inl out) = absurd (refused_not_accepted a b out)
accepted_by accepts a b skew transit c (inr h) = (accepts (journals_of a b) skew transit c).0 h.1

module _ (accepts : AcceptsTheAccepted) (law : AcceptedOverSpansIsTrue) where
  -- over the journals that spans show
  over_spans : (r : ReadSpans) (shown : PairJournals) (skew transit : ℕ) (c : Claim)
      → AreShownBySpans r (ShowJournals shown)
      → IsJudgementOfJournals shown.primary shown.secondary skew transit c (Verdict VerdictAccepted)
      → IsTrueOverSpans r skew transit c
  over_spans r shown skew transit c is judged =
      law r.primary.volumes.items r.secondary.volumes.items shown skew transit c is
      (accepted_by accepts shown.primary shown.secondary skew transit c judged)

  pub accepted_true : AcceptedIsTrue
  accepted_true r q c a is = over_spans r a.shown q.skew q.transit c is.is_shown is.judged

  -- ---- over given volumes

  given_so : (r : ReadSpans) (bounds : TimingBounds) (shown : PairJournals)
      (certificate : Result Claim CertificateFault)
      (ruling : Judgement) → AreShownBySpans r (ShowJournals shown)
      → IsJudgementOfParsed (Ok shown.primary) (Ok shown.secondary) bounds.skew bounds.transit certificate ruling
      → IsTrueOfGiven r bounds certificate ruling
  given_so r bounds shown (Ok c) ruling is judged =
      λ accepted. over_spans r shown bounds.skew bounds.transit c is
      (subst (IsJudgementOfJournals shown.primary shown.secondary bounds.skew bounds.transit c) accepted judged)
  given_so r bounds shown (Err fault) ruling is judged = tt

  all_given : (r : ReadSpans) (bounds : TimingBounds) (shown : PairJournals) (texts : List (List ℕ))
      (rulings : List Judgement) → AreShownBySpans r (ShowJournals shown) → AreRuledBy shown bounds texts rulings
      → AreTrueOfGiven r bounds texts rulings
  all_given r bounds shown [] [] is are = tt
  all_given r bounds shown (text ∷ texts) (ruling ∷ rulings) is are = (
    given_so r bounds shown (certificate_of text) ruling is are.0,
    all_given r bounds shown texts rulings is are.1,
  )
  all_given r bounds shown [] (ruling ∷ rulings) is are = absurd are
  all_given r bounds shown (text ∷ texts) [] is are = absurd are

  pub given_true : GivenRulingsAreTrue
  given_true r bounds texts g are = all_given r bounds are.shown texts g.rulings.items are.is_shown are.ruled

-- ---- on texts

module _ (accepted : AcceptedIsTrue) where
  -- the spans that accept it were read
  pub record IsAcceptedSomewhere (had : ℕ → List ℕ → Type 0) (archive : Archive) (q : HolderQuery) (c : Claim)
      (a : SpanAcceptance) : Type 0 where
    pub r : ReadSpans
    pub read : ArePairRead had archive r
    pub is : IsAcceptance r q c a

  walked_so : (had : ℕ → List ℕ → Type 0) (archive : Archive) (q : HolderQuery) (c : Claim) (n : ℕ) (r : ReadSpans)
      (a : SpanAcceptance) → ArePairRead had archive r → IsWalk had archive q c n r (Some a)
      → IsAcceptedSomewhere had archive q c a
  walked_so had archive q c zero r a read walk = record { r = r; read = read; is = walk }
  walked_so had archive q c (suc n) r a read walk =
      walked_so had archive q c n walk.2.0 a walk.2.2 walk.2.3

  tried_so : (had : ℕ → List ℕ → Type 0) (archive : Archive) (q : HolderQuery) (c : Claim) (a : SpanAcceptance)
      → IsTriedAt had archive q c (Some a) → IsAcceptedSomewhere had archive q c a
  tried_so had archive q c a (inl h) = walked_so had archive q c h.1 h.0 a h.2.0 h.3
  tried_so had archive q c a (inr none) = let e = none.1 in absurd (cc)

  somewhere : (had : ℕ → List ℕ → Type 0) (archive : Archive) (bounds : TimingBounds) (at : ℕ) (c : Claim)
      (a : SpanAcceptance) (ruling : SpanRuling) → a.ruling ≡ ruling
      → IsAcceptedSomewhere had archive (asked_at c bounds at) c a
      → IsTrueOverItsSpans had archive bounds (Ok c) ruling
  somewhere had archive bounds at c a ruling same h =
      subst (IsTrueOverItsSpans had archive bounds (Ok c)) same
      (h.r, h.read, h.is.spans, h.is.last, accepted h.r (asked_at c bounds at) c a h.is)

  -- what spans answer that were read is an acceptance over them
  answered_so : (had : ℕ → List ℕ → Type 0) (archive : Archive) (q : HolderQuery) (c : Claim) (r : ReadSpans)
      (a : SpanAcceptance) → ArePairRead had archive r → (trial : SpanTrial) → IsTrial r q c trial
      → Some a ≡ accepted_of trial → IsAcceptedSomewhere had archive q c a
  answered_so had archive q c r a read (Accepted b) is same =
      let e : b ≡ a = cc in
      record { r = r; read = read; is = subst (IsAcceptance r q c) e is }
  answered_so had archive q c r a read Carried is same = absurd (cc)
  answered_so had archive q c r a read Refused is same = absurd (cc)
  answered_so had archive q c r a read Barred is same = absurd (cc)

  over_so : (had : ℕ → List ℕ → Type 0) (archive : Archive) (spans : SpanPair) (q : HolderQuery) (c : Claim)
      (a : SpanAcceptance) → IsTriedOver had archive spans q c (Some a) → IsAcceptedSomewhere had archive q c a
  over_so had archive spans q c a (inl h) = answered_so had archive q c h.0 a h.1.0 h.2.0 h.2.1 h.2.2
  over_so had archive spans q c a (inr none) = let e = none.1 in absurd (cc)

  within_so : (had : ℕ → List ℕ → Type 0) (archive : Archive) (spans : SpanPair) (r : ReadSpans) (q : HolderQuery)
      (c : Claim) (a : SpanAcceptance) → IsTriedWithin had archive spans r q c (Some a)
      → IsAcceptedSomewhere had archive q c a
  within_so had archive spans r q c a (inl h) = over_so had archive spans q c a h.1
  within_so had archive spans r q c a (inr none) = let e = none.1 in absurd (cc)

  behind_so : (had : ℕ → List ℕ → Type 0) (archive : Archive) (spans : SpanPair) (q : HolderQuery) (c : Claim)
      (a : SpanAcceptance) → IsTriedBehind had archive spans q c (Some a) → IsAcceptedSomewhere had archive q c a
  behind_so had archive spans q c a (inl h) = within_so had archive spans h.0 q c a h.2
  behind_so had archive spans q c a (inr none) = let e = none.1 in absurd (cc)

  between_so : (had : ℕ → List ℕ → Type 0) (archive : Archive) (bounds : TimingBounds) (c : Claim) (a : SpanAcceptance)
      (ruling : SpanRuling) → a.ruling ≡ ruling → IsTriedBetween had archive bounds c (Some a)
      → IsTrueOverItsSpans had archive bounds (Ok c) ruling
  between_so had archive bounds c a ruling same (inl h) =
      somewhere had archive bounds (c.to - 1) c a ruling same
      (behind_so had archive h.0 (asked_at c bounds (c.to - 1)) c a h.2)
  between_so had archive bounds c a ruling same (inr none) = let e = none.1 in absurd (cc)

  later_so : (had : ℕ → List ℕ → Type 0) (archive : Archive) (bounds : TimingBounds) (c : Claim) (a : SpanAcceptance)
      (ruling : SpanRuling) → a.ruling ≡ ruling → IsTriedLater had archive bounds c (Some a)
      → IsTrueOverItsSpans had archive bounds (Ok c) ruling
  later_so had archive bounds c a ruling same (inl h) =
      let e : h.0 ≡ a = cc in
      somewhere had archive bounds (c.to - 1) c a ruling same
      (tried_so had archive (asked_at c bounds (c.to - 1)) c a
      (subst (λ (x : SpanAcceptance). IsTriedAt had archive (asked_at c bounds (c.to - 1)) c (Some x)) e h.2))
  later_so had archive bounds c a ruling same (inr h) = between_so had archive bounds c a ruling same h.1

  joined_so : (had : ℕ → List ℕ → Type 0) (archive : Archive) (bounds : TimingBounds) (c : Claim) (a : SpanAcceptance)
      (ruling : SpanRuling) → a.ruling ≡ ruling → IsTried had archive bounds c (Some a)
      → IsTrueOverItsSpans had archive bounds (Ok c) ruling
  joined_so had archive bounds c a ruling same (inl h) =
      let e : h.0 ≡ a = cc in
      somewhere had archive bounds c.from c a ruling same
      (tried_so had archive (asked_at c bounds c.from) c a
      (subst (λ (x : SpanAcceptance). IsTriedAt had archive (asked_at c bounds c.from) c (Some x)) e h.2))
  joined_so had archive bounds c a ruling same (inr h) = later_so had archive bounds c a ruling same h.1

  -- ---- on a text

  ruling_so : (had : ℕ → List ℕ → Type 0) (archive : Archive) (bounds : TimingBounds)
      (certificate : Result Claim CertificateFault) (own : ArchiveJudgement) (r : CertificateRuling)
      → AcceptedClaimIsTrue had bounds.skew bounds.transit certificate own
      → IsRulingOn had archive bounds certificate own r → IsTrueRuling had archive bounds certificate r
  ruling_so had archive bounds (Ok c) own (Own judged) true_own is =
      subst (λ (j : ArchiveJudgement). AcceptedClaimIsTrue had bounds.skew bounds.transit (Ok c) j) (sym is.0) true_own
  ruling_so had archive bounds (Err fault) own (Own judged) true_own is = tt
  ruling_so had archive bounds (Ok c) own (Joined ruling) true_own is =
      joined_so had archive bounds c is.1.0 ruling is.1.1 is.1.2
  ruling_so had archive bounds (Err fault) own (Joined ruling) true_own is = absurd is.1

  pub all_so : (had : ℕ → List ℕ → Type 0) (archive : Archive) (bounds : TimingBounds) (texts : List (List ℕ))
      (owns : List ArchiveJudgement) (rs : List CertificateRuling)
      → AreJudged had archive bounds.skew bounds.transit texts owns → AreRulings had archive bounds texts owns rs
      → AreTrueRulings had archive bounds texts rs
  all_so had archive bounds [] [] [] judged are = tt
  all_so had archive bounds (text ∷ texts) (own ∷ owns) (r ∷ rs) judged are = (
    ruling_so had archive bounds (certificate_of text) own r judged.1 are.0,
    all_so had archive bounds texts owns rs judged.2 are.1,
  )
  all_so had archive bounds [] [] (r ∷ rs) judged are = absurd are
  all_so had archive bounds [] (own ∷ owns) rs judged are = absurd judged
  all_so had archive bounds (text ∷ texts) [] rs judged are = absurd judged
  all_so had archive bounds (text ∷ texts) (own ∷ owns) [] judged are = absurd are
