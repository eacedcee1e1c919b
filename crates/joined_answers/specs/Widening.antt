-- Who held a prefix at a moment, over the volumes that show it and, where a lease may have begun before these, over
-- earlier ones too: one more of each side at a time, up to the first answer to which earlier ones add nothing.
use Rattle.std.specs.Prelude.{◌≡◌, ℕ, zero, suc, ◌⊎◌, List}
use Rattle.journal_archive.specs.declared.archive.Archive.{Archive}
use Rattle.plain_search.specs.declared.query.HolderQuery.{HolderQuery}
use Rattle.desk_args.specs.declared.settings.SettingsCheck.{SettingsCheck}
use Rattle.archive_files.specs.Rereading.{HasOtherHead}
use Rattle.volume_spans.specs.declared.reader.SpanReader.{SpanReader}
use Rattle.volume_spans.specs.declared.refusal.JoinRefusal.{JoinRefusal}
use Rattle.volume_spans.specs.declared.spans.ReadSpans.{ReadSpans}
use Rattle.volume_spans.specs.Reading.{IsWidened}
use Rattle.volume_spans.specs.Spans.{ArePairRead}
use Rattle.joined_answers.specs.declared.answer.SpannedAnswer.{SpannedAnswer}
use Rattle.joined_answers.specs.declared.answer.SpanTry.TheVariants.{Refused as TryRefused}
use Rattle.joined_answers.specs.declared.starting.MomentSpans.TheVariants.{Read, Lacking as MomentLacking}
use Rattle.joined_answers.specs.declared.widening.WiderTry.{WiderTry}
use Rattle.joined_answers.specs.declared.widening.WiderTry.TheVariants.{Answered as WiderAnswered, Refused as WiderRefused}
use Rattle.joined_answers.specs.declared.widening.SpanReply.{SpanReply}
use Rattle.joined_answers.specs.declared.widening.SpanReply.TheVariants.{Answered, Lacking, Refused}
use Rattle.joined_answers.specs.Reach.{reach, MayBeginEarlier}
use Rattle.joined_answers.specs.Answers.{IsSpanAnswer, IsSpanTry, IsRefusedAnswer, AsksFurther}
use Rattle.joined_answers.specs.Starting.{AreMomentSpans}

-- with one volume more in front, where a lease may have begun before the span
abbrev pub IsWidenedWithin : (at reach : ℕ) → SpanReader → SpanReader → Type 0
IsWidenedWithin at reach s t =
    (MayBeginEarlier at reach s → IsWidened s t) × ((MayBeginEarlier at reach s → ⊥) → t ≡ s)

-- so it is with each side's span
abbrev pub AreWidenedWithin : (at reach : ℕ) → ReadSpans → ReadSpans → Type 0
AreWidenedWithin at reach r s =
    IsWidenedWithin at reach r.primary s.primary × IsWidenedWithin at reach r.secondary s.secondary

-- a side's may be widened
abbrev pub MayWidenWithin : (at reach : ℕ) → ReadSpans → Type 0
MayWidenWithin at reach r = MayBeginEarlier at reach r.primary ⊎ MayBeginEarlier at reach r.secondary

-- with these wider spans, which are read and refuse nothing
pub record IsWider (had : ℕ → List ℕ → Type 0) (archive : Archive) (q : HolderQuery) (settings : SettingsCheck)
    (r s : ReadSpans) (a : SpannedAnswer) : Type 0 where
  pub widened : AreWidenedWithin q.at (reach q r) r s
  pub read : ArePairRead had archive s
  pub answer : IsSpanAnswer s q settings a
  pub fits : IsRefusedAnswer a.answer → ⊥

-- What stands against wider spans: their volumes aren't one journal, or something refuses their journals or the question
-- over them; or a volume begins otherwise than the one before it names.
abbrev pub IsWiderRefused : (had : ℕ → List ℕ → Type 0) → HolderQuery → SettingsCheck → ReadSpans → Type 0
IsWiderRefused had q settings r =
    ((s : ReadSpans) × AreWidenedWithin q.at (reach q r) r s
    × (((refusal : JoinRefusal) × IsSpanTry s q settings (TryRefused refusal))
    ⊎ ((a : SpannedAnswer) × IsSpanAnswer s q settings a × IsRefusedAnswer a.answer)))
    ⊎ ((file : ℕ) × (line : ℕ) × HasOtherHead had file line)

-- what comes of taking one volume more in front of each side
abbrev pub IsWiderTry : (had : ℕ → List ℕ → Type 0) → Archive → HolderQuery → SettingsCheck → ReadSpans → WiderTry → Type 0
IsWiderTry had archive q settings r (WiderAnswered s a) = IsWider had archive q settings r s a
IsWiderTry had archive q settings r WiderRefused = IsWiderRefused had q settings r

-- earlier volumes add nothing: they are not asked for, none are within reach, or something stands against them
abbrev pub Stops : (had : ℕ → List ℕ → Type 0) → HolderQuery → SettingsCheck → ReadSpans → SpannedAnswer → Type 0
Stops had q settings r a =
    (AsksFurther a.answer → ⊥) ⊎ ((MayWidenWithin q.at (reach q r) r → ⊥) ⊎ IsWiderRefused had q settings r)

-- The last of the answers over spans that are widened so many times, where earlier volumes add nothing to it.
abbrev pub IsWidest : (had : ℕ → List ℕ → Type 0) → Archive → HolderQuery → SettingsCheck → (times : ℕ) → ReadSpans
    → SpannedAnswer → SpannedAnswer → Type 0
IsWidest had archive q settings zero r a last = (last ≡ a) × Stops had q settings r a
IsWidest had archive q settings (suc n) r a last =
    AsksFurther a.answer × MayWidenWithin q.at (reach q r) r
    × ((s : ReadSpans) × (b : SpannedAnswer) × IsWider had archive q settings r s b
    × IsWidest had archive q settings n s b last)

-- The answer over the moment's own volumes, or over earlier ones too; or which side lacks the moment, and why; or why
-- the two volumes of a roll aren't one journal.
abbrev pub IsReply : (had : ℕ → List ℕ → Type 0) → Archive → HolderQuery → SettingsCheck → SpanReply → Type 0
IsReply had archive q settings (Answered last) =
    (r : ReadSpans) × (first : SpannedAnswer) × (times : ℕ)
    × AreMomentSpans had archive q.skew q.transit q.at (Read r) × IsSpanAnswer r q settings first
    × IsWidest had archive q settings times r first last
IsReply had archive q settings (Lacking side gap) =
    AreMomentSpans had archive q.skew q.transit q.at (MomentLacking side gap)
IsReply had archive q settings (Refused refusal) =
    (r : ReadSpans) × AreMomentSpans had archive q.skew q.transit q.at (Read r)
    × IsSpanTry r q settings (TryRefused refusal)

-- the answer is over the journals that some spans of the archive show
abbrev pub IsOverSpans : (had : ℕ → List ℕ → Type 0) → Archive → HolderQuery → SettingsCheck → SpannedAnswer → Type 0
IsOverSpans had archive q settings a =
    (r : ReadSpans) × ArePairRead had archive r × IsSpanAnswer r q settings a
