-- What is found over volumes is true of the pair that left them.
use Rattle.std.specs.Prelude.{◌≡◌, ℕ, zero, suc, ◌&&◌, Bool, true, false, List, [], ◌∷◌, Option, Some, None}
use Rattle.std.specs.Prelude.{nat_lt, if◌then◌else◌}
use Rattle.std.proofs.Common.{sym, subst, refl, inl, inr}
use Rattle.std.proofs.lemmas.Bool.{cases_lt}
use Rattle.causal_order.specs.Journals.{journals_of}
use Rattle.attribution.specs.FirstRefusal.{IsVerdict, AcceptsTheAccepted}
use Rattle.attribution.specs.declared.verdict.Verdict.TheVariants.{Accepted}
use Rattle.plain_search.specs.declared.query.Query.{Query}
use Rattle.plain_search.specs.declared.query.HolderQuery.{HolderQuery}
use Rattle.journal_archive.specs.declared.archive.Archive.{Archive}
use Rattle.journal_archive.specs.declared.spans.CoverageSpan.{CoverageSpan}
use Rattle.archive_files.specs.Reaching.{shown_until}
use Rattle.archive_desk.specs.Stretches.{reading_or, stretch_of, cut_at}
use Rattle.volume_spans.specs.declared.spans.ReadSpans.{ReadSpans}
use Rattle.volume_spans.specs.Laws.{AcceptedOverSpansIsTrue}
use Rattle.volume_spans.specs.Spans.{ArePairRead}
use Rattle.joined_evidence.specs.declared.span_searching.SpanEvidence.{SpanEvidence}
use Rattle.joined_evidence.specs.declared.stretches.SpannedStretch.{SpannedStretch}
use Rattle.joined_evidence.specs.declared.stretches.SpannedStretch.TheVariants.{Own, Joined}
use Rattle.joined_evidence.specs.Asking.{asked_at}
use Rattle.joined_evidence.specs.Searches.{IsSpanEvidence}
use Rattle.joined_evidence.specs.Walking.{IsWalk, IsTriedAt}
use Rattle.joined_evidence.specs.Truth.{IsTrueStretch, AreTrueStretches}
use Rattle.joined_evidence.specs.Stretches.{IsStretchAt, AreStretches, IsEvidence}
use Rattle.joined_evidence.specs.Laws.{FoundIsTrue}

-- an interval is cut, and nothing else of the question
same_skew : (cuts : Bool) (q : Query) (to : ℕ) → (if cuts then record q { to = to } else q).skew ≡ q.skew
same_skew true q to = refl
same_skew false q to = refl

same_transit : (cuts : Bool) (q : Query) (to : ℕ) → (if cuts then record q { to = to } else q).transit ≡ q.transit
same_transit true q to = refl
same_transit false q to = refl

cut_skew : (o : Option ℕ) (q : Query) → (cut_at o q).skew ≡ q.skew
cut_skew None q = refl
cut_skew (Some until) q = same_skew (nat_lt q.from until && nat_lt until q.to) q (reading_or until q.to)

cut_transit : (o : Option ℕ) (q : Query) → (cut_at o q).transit ≡ q.transit
cut_transit None q = refl
cut_transit (Some until) q = same_transit (nat_lt q.from until && nat_lt until q.to) q (reading_or until q.to)

pub found_true : AcceptsTheAccepted → AcceptedOverSpansIsTrue → FoundIsTrue
found_true accepts law r q e is =
    let cut = cut_at (shown_until q.skew is.shown) q in
    let js = journals_of is.shown.primary is.shown.secondary in
    let by_skew = subst (λ (s : ℕ). IsVerdict js s cut.transit e.certificate Accepted)
    (cut_skew (shown_until q.skew is.shown) q) is.found.shown.verdict in
    let verdict = subst (λ (t : ℕ). IsVerdict js q.skew t e.certificate Accepted)
    (cut_transit (shown_until q.skew is.shown) q) by_skew in
    law r.primary.volumes.items r.secondary.volumes.items is.shown q.skew q.transit e.certificate is.is_shown
    ((accepts js q.skew q.transit e.certificate).0 verdict)

-- ---- of stretches

-- the spans over which it's found were read
record IsFoundSomewhere (had : ℕ → List ℕ → Type 0) (archive : Archive) (q : Query) (e : SpanEvidence) : Type 0 where
  pub r : ReadSpans
  pub read : ArePairRead had archive r
  pub is : IsSpanEvidence r q e

module _ (found : FoundIsTrue) (had : ℕ → List ℕ → Type 0) (archive : Archive) where
  walked_so : (q : Query) (h : HolderQuery) (n : ℕ) (r : ReadSpans) (e : SpanEvidence) → ArePairRead had archive r
      → IsWalk had archive q h n r (Some e) → IsFoundSomewhere had archive q e
  walked_so q h zero r e read walk = record { r = r; read = read; is = walk }
  walked_so q h (suc n) r e read walk = walked_so q h n walk.2.0 e walk.2.2 walk.2.3

  tried_so : (q : Query) (h : HolderQuery) (e : SpanEvidence) → IsTriedAt had archive q h (Some e)
      → IsFoundSomewhere had archive q e
  tried_so q h e (inl w) = walked_so q h w.1 w.0 e w.2.0 w.3
  tried_so q h e (inr none) = let same = none.1 in absurd (cc)

  stretch_so : (moment end : ℕ) (q : Query) (s : SpannedStretch) → IsStretchAt had archive moment q end s
      → IsTrueStretch had archive q s
  stretch_so moment end q (Own own) is = tt
  stretch_so moment end q (Joined e stop) is =
      let w = tried_so q (asked_at q) e is.1 in
      (w.r, w.read, w.is.spans, w.is.last, found w.r q e w.is)

  -- a stretch's skew and transit are the question's
  of_stretch : (q : Query) (span : CoverageSpan) (s : SpannedStretch) → IsTrueStretch had archive (stretch_of q span) s
      → IsTrueStretch had archive q s
  of_stretch q span (Own own) is = tt
  of_stretch q span (Joined e stop) is = is

  each_so : (q : Query) (spans : List CoverageSpan) (ss : List SpannedStretch) → AreStretches had archive q spans ss
      → AreTrueStretches had archive q ss
  each_so q [] [] are = tt
  each_so q (span ∷ spans) (s ∷ ss) are = (
    of_stretch q span s (stretch_so span.from span.to (stretch_of q span) s are.0),
    each_so q spans ss are.1,
  )
  each_so q [] (s ∷ ss) are = absurd are
  each_so q (span ∷ spans) [] are = absurd are

  pub all_so : (q : Query) (ss : List SpannedStretch) → IsEvidence had archive q ss → AreTrueStretches had archive q ss
  all_so q ss is = elim (cases_lt q.from q.to) [
    | inl lt ↦ (let spans = is.each lt in each_so q spans.0 ss spans.2)
    | inr le ↦ (
        let one = is.empty le in
        subst (AreTrueStretches had archive q) (sym one.2) (stretch_so q.from q.from q one.0 one.1, tt))
  ]
