-- A search over spans that are widened one after the other.
use Rattle.std.specs.Prelude.{◌⊎◌, ℕ, suc, List, Option, Some, None}
use Rattle.std.proofs.Common.{inl, inr}
use Rattle.plain_search.specs.declared.query.Query.{Query}
use Rattle.plain_search.specs.declared.query.HolderQuery.{HolderQuery}
use Rattle.journal_archive.specs.declared.archive.Archive.{Archive}
use Rattle.volume_spans.specs.declared.spans.ReadSpans.{ReadSpans}
use Rattle.volume_spans.specs.Spans.{ArePairRead}
use Rattle.joined_answers.specs.Reach.{reach}
use Rattle.joined_answers.specs.Widening.{AreWidenedWithin, MayWidenWithin}
use Rattle.joined_rulings.specs.Walking.{HasBarrier}
use Rattle.joined_evidence.specs.declared.span_searching.SpanEvidence.{SpanEvidence}
use Rattle.joined_evidence.specs.declared.span_searching.SpanSearch.{SpanSearch}
use Rattle.joined_evidence.specs.declared.span_searching.SpanSearch.TheVariants.{Found, Carried, NotFound, Barred}
use Rattle.joined_evidence.specs.Searches.{IsSpanSearch}
use Rattle.joined_evidence.specs.Walking.{IsCarried, found_of, IsWalk}

module _ (had : ℕ → List ℕ → Type 0) (archive : Archive) (q : Query) (h : HolderQuery) where
  -- some number of times the spans are widened up to this end
  abbrev pub Ends : ReadSpans → Option SpanEvidence → Type 0
  Ends begun end = (times : ℕ) × IsWalk had archive q h times begun end

  -- what comes of the spans so far comes of those at the beginning
  pub record IsOnward (begun read : ReadSpans) (came : SpanSearch) : Type 0 where
    pub spans : ArePairRead had archive read
    pub is_search : IsSpanSearch read q h came
    pub each : (end : Option SpanEvidence) (n : ℕ) → IsWalk had archive q h n read end → Ends begun end

  pub begun_so : (begun : ReadSpans) (came : SpanSearch) → ArePairRead had archive begun → IsSpanSearch begun q h came
      → IsOnward begun begun came
  begun_so begun came read is = record { spans = read; is_search = is; each = λ end n w. (n, w) }

  pub wider_so : (begun read : ReadSpans) (came : SpanSearch) → IsOnward begun read came → IsCarried came
      → MayWidenWithin h.at (reach h read) read → (wider : ReadSpans) → AreWidenedWithin h.at (reach h read) read wider
      → ArePairRead had archive wider → (next : SpanSearch) → IsSpanSearch wider q h next → IsOnward begun wider next
  wider_so begun read Carried on is may wider widened are next came = record {
    spans = are;
    is_search = came;
    each = λ end n w. on.each end (suc n) (on.is_search, may, (wider, widened, are, w));
  }
  wider_so begun read (Found e) on is may wider widened are next came = absurd is
  wider_so begun read NotFound on is may wider widened are next came = absurd is
  wider_so begun read Barred on is may wider widened are next came = absurd is

  -- a file stands against wider spans
  pub barred_so : (begun read : ReadSpans) (came : SpanSearch) → IsOnward begun read came → IsCarried came
      → HasBarrier had → Ends begun None
  barred_so begun read Carried on is file = on.each None 0 (inr (inr (on.is_search, inr file)))
  barred_so begun read (Found e) on is file = absurd is
  barred_so begun read NotFound on is file = absurd is
  barred_so begun read Barred on is file = absurd is

  -- nothing is carried, or no earlier volume is within reach
  pub ended_so : (begun read : ReadSpans) (came : SpanSearch) → IsOnward begun read came
      → (IsCarried came → ⊥) ⊎ (MayWidenWithin h.at (reach h read) read → ⊥) → Ends begun (found_of came)
  ended_so begun read (Found e) on why = on.each (Some e) 0 on.is_search
  ended_so begun read NotFound on why = on.each None 0 (inl on.is_search)
  ended_so begun read Barred on why = on.each None 0 (inr (inl on.is_search))
  ended_so begun read Carried on (inl not) = absurd (not tt)
  ended_so begun read Carried on (inr not) = on.each None 0 (inr (inr (on.is_search, inl not)))
