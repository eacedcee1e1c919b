-- Spans that are widened one after the other.
use Rattle.std.specs.Prelude.{◌≡◌, ◌≢◌, ℕ, suc, ◌+◌, ◌<◌, ◌≤◌, ◌⊎◌, List, Option, Some, None, slice_get}
use Rattle.std.proofs.Common.{arith, sym, ◌∙◌, ap, subst, refl, inl, inr}
use Rattle.journal_archive.specs.declared.archive.Archive.{Archive}
use Rattle.journal_archive.specs.declared.outline.FiledVolume.{FiledVolume}
use Rattle.plain_search.specs.declared.query.HolderQuery.{HolderQuery}
use Rattle.desk_args.specs.declared.settings.SettingsCheck.{SettingsCheck}
use Rattle.std.proofs.lemmas.Bool.{cases_lt}
use Rattle.volume_spans.specs.declared.reading.ReadVolume.{ReadVolume}
use Rattle.volume_spans.specs.declared.reader.SpanReader.{SpanReader}
use Rattle.volume_spans.specs.declared.spans.ReadSpans.{ReadSpans}
use Rattle.volume_spans.specs.Reading.{IsSpanRead, span_of}
use Rattle.volume_spans.specs.Spans.{ArePairRead}
use Rattle.volume_spans.proofs.Widening.{begins_earlier}
use Rattle.joined_answers.specs.declared.answer.SpannedAnswer.{SpannedAnswer}
use Rattle.joined_answers.specs.declared.answer.SpanTry.{SpanTry}
use Rattle.joined_answers.specs.declared.answer.SpanTry.TheVariants.{Answered, Refused}
use Rattle.joined_answers.specs.Reach.{reach, opening_of, MayBeginEarlier}
use Rattle.joined_answers.specs.Answers.{IsSpanAnswer, IsSpanTry, IsFitting, IsRefusedAnswer, AsksFurther}
use Rattle.joined_answers.specs.Widening.{IsWidenedWithin, AreWidenedWithin, MayWidenWithin, IsWider, IsWiderRefused, IsWidest}
use Rattle.joined_answers.specs.Widening.{IsOverSpans}

module _ (had : ℕ → List ℕ → Type 0) (archive : Archive) (q : HolderQuery) (settings : SettingsCheck) where
  -- what comes of the spans so far comes of those at the beginning
  pub record IsOnward (begun : ReadSpans) (first : SpannedAnswer) (read : ReadSpans) (last : SpannedAnswer) : Type 0
    where
      pub spans : ArePairRead had archive read
      pub answer : IsSpanAnswer read q settings last
      pub each : (end : SpannedAnswer) (n : ℕ) → IsWidest had archive q settings n read last end
          → (m : ℕ) × IsWidest had archive q settings m begun first end

  pub begun_so : (begun : ReadSpans) (first : SpannedAnswer) → ArePairRead had archive begun
      → IsSpanAnswer begun q settings first → IsOnward begun first begun first
  begun_so begun first read answer = record { spans = read; answer = answer; each = λ end n h. (n, h) }

  module _ (begun : ReadSpans) (first : SpannedAnswer) (read : ReadSpans) (last : SpannedAnswer)
      (on : IsOnward begun first read last) where
    pub wider_so : (wider : ReadSpans) (answer : SpannedAnswer) → AsksFurther last.answer
        → MayWidenWithin q.at (reach q read) read → IsWider had archive q settings read wider answer
        → IsOnward begun first wider answer
    wider_so wider answer asks may is = record {
      spans = is.read;
      answer = is.answer;
      each = λ end n h. on.each end (suc n) (asks, may, (wider, answer, is, h));
    }

    pub not_asked : (AsksFurther last.answer → ⊥) → (m : ℕ) × IsWidest had archive q settings m begun first last
    not_asked none = on.each last 0 (refl, inl none)

    pub not_within : (MayWidenWithin q.at (reach q read) read → ⊥)
        → (m : ℕ) × IsWidest had archive q settings m begun first last
    not_within none = on.each last 0 (refl, inr (inl none))

    pub over_spans : IsOverSpans had archive q settings last
    over_spans = (read, on.spans, on.answer)

    pub refused_so : IsWiderRefused had q settings read → (m : ℕ) × IsWidest had archive q settings m begun first last
    refused_so why = on.each last 0 (refl, inr (inr why))

-- ---- how often

-- the numbers of the first volumes of both sides
abbrev pub firsts : ReadSpans → ℕ
firsts r = (span_of r.primary.volumes.items).first + (span_of r.secondary.volumes.items).first

module _ (had : ℕ → List ℕ → Type 0) (shelf : List FiledVolume) (at reach_at : ℕ) (s t : SpanReader)
    (read : IsSpanRead had shelf s) (widened : IsWidenedWithin at reach_at s t) where
  earlier : MayBeginEarlier at reach_at s → (span_of t.volumes.items).first < (span_of s.volumes.items).first
  earlier may = begins_earlier had shelf s t read may.0 (widened.0 may)

  may_or_not : MayBeginEarlier at reach_at s ⊎ (MayBeginEarlier at reach_at s → ⊥)
  may_or_not = by_before s.before refl where
    by_before : (o : Option ReadVolume) → s.before ≡ o
        → MayBeginEarlier at reach_at s ⊎ (MayBeginEarlier at reach_at s → ⊥)
    by_before None e = inr (λ may. may.0 e)
    by_before (Some b) e = elim (cases_lt at (opening_of (slice_get s.volumes.items 0) + reach_at)) [
      | inl lt ↦ inl ((λ none. let x = sym e ∙ none in absurd (cc)), lt)
      | inr ge ↦ inr (λ may. let lt = may.1 in absurd (omega arith))
    ]

  no_later : (span_of t.volumes.items).first ≤ (span_of s.volumes.items).first
  no_later = elim may_or_not [
    | inl may ↦ (let lt = earlier may in omega arith)
    | inr not ↦ (
        let e : (span_of t.volumes.items).first ≡ (span_of s.volumes.items).first =
        ap (λ (x : SpanReader). (span_of x.volumes.items).first) (widened.1 not) in
        omega arith)
  ]

-- wider spans begin earlier
pub falls : (had : ℕ → List ℕ → Type 0) (archive : Archive) (at reach_at : ℕ) (r s : ReadSpans)
    → ArePairRead had archive r → AreWidenedWithin at reach_at r s → MayWidenWithin at reach_at r → firsts s < firsts r
falls had archive at reach_at r s read widened (inl may) =
    let a = earlier had archive.primary at reach_at r.primary s.primary read.primary widened.0 may in
    let b = no_later had archive.secondary at reach_at r.secondary s.secondary read.secondary widened.1 in
    omega arith
falls had archive at reach_at r s read widened (inr may) =
    let a = no_later had archive.primary at reach_at r.primary s.primary read.primary widened.0 in
    let b = earlier had archive.secondary at reach_at r.secondary s.secondary read.secondary widened.1 may in
    omega arith

-- ---- one try

module _ (had : ℕ → List ℕ → Type 0) (archive : Archive) (q : HolderQuery) (settings : SettingsCheck) (r s : ReadSpans)
    (widened : AreWidenedWithin q.at (reach q r) r s) where
  pub wider_answered : (tried : SpanTry) (b : SpannedAnswer) → ArePairRead had archive s → IsSpanTry s q settings tried
      → IsFitting tried (Some b) → IsWider had archive q settings r s b
  wider_answered (Refused refusal) b read is fit = absurd fit
  wider_answered (Answered a) b read is fit =
      let same = fit.0 in
      record {
        widened = widened;
        read = read;
        answer = subst (IsSpanAnswer s q settings) (sym same) is;
        fits = subst (λ (x : SpannedAnswer). IsRefusedAnswer x.answer → ⊥) (sym same) fit.1;
      }

  pub wider_refused : (tried : SpanTry) → IsSpanTry s q settings tried → IsFitting tried None
      → IsWiderRefused had q settings r
  wider_refused (Refused refusal) is fit = inl (s, widened, inl (refusal, is))
  wider_refused (Answered a) is fit = inl (s, widened, inr (a, is, fit))
