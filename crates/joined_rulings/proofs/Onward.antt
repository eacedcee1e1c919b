-- A certificate, tried over spans that are widened one after the other.
use Rattle.std.specs.Prelude.{◌⊎◌, ℕ, suc, List, Option, Some, None}
use Rattle.std.proofs.Common.{inl, inr}
use Rattle.causal_order.specs.declared.certificate.Certificate.{Certificate as Claim}
use Rattle.plain_search.specs.declared.query.HolderQuery.{HolderQuery}
use Rattle.journal_archive.specs.declared.archive.Archive.{Archive}
use Rattle.volume_spans.specs.declared.spans.ReadSpans.{ReadSpans}
use Rattle.volume_spans.specs.Spans.{ArePairRead}
use Rattle.joined_answers.specs.Reach.{reach}
use Rattle.joined_answers.specs.Widening.{AreWidenedWithin, MayWidenWithin}
use Rattle.joined_rulings.specs.declared.trial.SpanAcceptance.{SpanAcceptance}
use Rattle.joined_rulings.specs.declared.trial.SpanTrial.{SpanTrial}
use Rattle.joined_rulings.specs.declared.trial.SpanTrial.TheVariants.{Accepted, Carried, Refused, Barred}
use Rattle.joined_rulings.specs.Trials.{IsTrial}
use Rattle.joined_rulings.specs.Walking.{HasBarrier, IsCarried, accepted_of, IsWalk}

module _ (had : ℕ → List ℕ → Type 0) (archive : Archive) (q : HolderQuery) (c : Claim) where
  -- some number of times the spans are widened up to this end
  abbrev pub Ends : ReadSpans → Option SpanAcceptance → Type 0
  Ends begun end = (times : ℕ) × IsWalk had archive q c times begun end

  -- what comes of the spans so far comes of those at the beginning
  pub record IsOnward (begun read : ReadSpans) (trial : SpanTrial) : Type 0 where
    pub spans : ArePairRead had archive read
    pub is_trial : IsTrial read q c trial
    pub each : (end : Option SpanAcceptance) (n : ℕ) → IsWalk had archive q c n read end → Ends begun end

  pub begun_so : (begun : ReadSpans) (trial : SpanTrial) → ArePairRead had archive begun → IsTrial begun q c trial
      → IsOnward begun begun trial
  begun_so begun trial read is = record { spans = read; is_trial = is; each = λ end n h. (n, h) }

  pub wider_so : (begun read : ReadSpans) (trial : SpanTrial) → IsOnward begun read trial → IsCarried trial
      → MayWidenWithin q.at (reach q read) read → (wider : ReadSpans) → AreWidenedWithin q.at (reach q read) read wider
      → ArePairRead had archive wider → (next : SpanTrial) → IsTrial wider q c next → IsOnward begun wider next
  wider_so begun read Carried on is may wider widened are next trial = record {
    spans = are;
    is_trial = trial;
    each = λ end n h. on.each end (suc n) (on.is_trial, may, (wider, widened, are, h));
  }
  wider_so begun read (Accepted a) on is may wider widened are next trial = absurd is
  wider_so begun read Refused on is may wider widened are next trial = absurd is
  wider_so begun read Barred on is may wider widened are next trial = absurd is

  -- a file stands against wider spans
  pub barred_so : (begun read : ReadSpans) (trial : SpanTrial) → IsOnward begun read trial → IsCarried trial
      → HasBarrier had → Ends begun None
  barred_so begun read Carried on is file = on.each None 0 (inr (inr (on.is_trial, inr file)))
  barred_so begun read (Accepted a) on is file = absurd is
  barred_so begun read Refused on is file = absurd is
  barred_so begun read Barred on is file = absurd is

  -- nothing is carried, or no earlier volume is within reach
  pub ended_so : (begun read : ReadSpans) (trial : SpanTrial) → IsOnward begun read trial
      → (IsCarried trial → ⊥) ⊎ (MayWidenWithin q.at (reach q read) read → ⊥) → Ends begun (accepted_of trial)
  ended_so begun read (Accepted a) on why = on.each (Some a) 0 on.is_trial
  ended_so begun read Refused on why = on.each None 0 (inl on.is_trial)
  ended_so begun read Barred on why = on.each None 0 (inr (inl on.is_trial))
  ended_so begun read Carried on (inl not) = absurd (not tt)
  ended_so begun read Carried on (inr not) = on.each None 0 (inr (inr (on.is_trial, inl not)))
