-- What the desk answers over the journals that spans of volumes show.
use Rattle.std.specs.Prelude.{◌≡◌, ℕ, ⊤, List, Option, Some, None, Contains as Has}
use Rattle.journal_archive.specs.declared.outline.VolumeEnding.TheVariants.{Closed, GoesOn}
use Rattle.journal_archive.specs.declared.outline.VolumeEnding.{VolumeEnding}
use Rattle.journal_archive.specs.declared.pair_lookup.VolumePair.{VolumePair}
use Rattle.archive_files.specs.Reaching.{shown_until}
use Rattle.candidate_leases.specs.declared.at_moment.AtMoment.TheVariants.{Carried as IsCarried}
use Rattle.candidate_leases.specs.declared.candidates.CandidateLease.{CandidateLease}
use Rattle.candidate_leases.specs.declared.volume_ends.VolumeEnd.{VolumeEnd}
use Rattle.candidate_leases.specs.declared.volume_ends.VolumeEnd.TheVariants.{Open, Closed as EndsClosed}
use Rattle.candidate_leases.specs.declared.volume_ends.VolumeEnds.{VolumeEnds}
use Rattle.candidate_leases.specs.declared.why.NoHolderReason.{NoHolderReason}
use Rattle.candidate_leases.specs.declared.why.NoHolderReason.TheVariants.{Several, Carried, NotShown}
use Rattle.plain_search.specs.declared.query.HolderQuery.{HolderQuery}
use Rattle.desk_args.specs.declared.settings.SettingsCheck.{SettingsCheck}
use Rattle.holder_answers.specs.declared.answer.NoHolder.{NoHolder}
use Rattle.holder_answers.specs.declared.answer.HolderAnswer.{HolderAnswer}
use Rattle.holder_answers.specs.declared.answer.HolderAnswer.TheVariants.{Refused as AnswerRefused, NotNamed}
use Rattle.holder_answers.specs.HolderAnswers.{IsAnswerOver}
use Rattle.volume_spans.specs.declared.refusal.JoinRefusal.{JoinRefusal}
use Rattle.volume_spans.specs.declared.spans.ReadSpans.{ReadSpans}
use Rattle.volume_spans.specs.declared.showing.SpannedJournals.TheVariants.{Journals, Refused as ShownRefused}
use Rattle.volume_spans.specs.Shown.{IsShownOver}
use Rattle.volume_spans.specs.Spans.{pair_of, IsLastPair}
use Rattle.line_origins.specs.Spans.{AreOriginsOf}
use Rattle.joined_answers.specs.declared.answer.SpannedAnswer.{SpannedAnswer}
use Rattle.joined_answers.specs.declared.answer.SpanTry.{SpanTry}
use Rattle.joined_answers.specs.declared.answer.SpanTry.TheVariants.{Answered, Refused}

abbrev pub volume_end : VolumeEnding → VolumeEnd
volume_end Closed = EndsClosed
volume_end GoesOn = Open

-- which of two volumes their servers still write
abbrev pub ends_of : VolumePair → VolumeEnds
ends_of pair =
    record { primary = volume_end pair.primary.outline.ending; secondary = volume_end pair.secondary.outline.ending }

-- the desk's answer over the journals that the spans show, how far these reach, and which volumes have their lines
pub record IsSpanAnswer (r : ReadSpans) (q : HolderQuery) (settings : SettingsCheck) (a : SpannedAnswer) : Type 0 where
  pub spans : a.spans ≡ pair_of r
  pub last : IsLastPair r a.pair
  pub is_shown : IsShownOver r.primary.volumes.items r.secondary.volumes.items (Journals a.shown)
  pub until : a.until ≡ shown_until q.skew a.shown
  pub origins : AreOriginsOf r a.origins
  pub answer : IsAnswerOver a.shown.primary a.shown.secondary q settings (ends_of a.pair) a.answer

-- the answer over these spans, or why the volumes of a side aren't one journal
abbrev pub IsSpanTry : ReadSpans → HolderQuery → SettingsCheck → SpanTry → Type 0
IsSpanTry r q settings (Answered a) = IsSpanAnswer r q settings a
IsSpanTry r q settings (Refused refusal) =
    IsShownOver r.primary.volumes.items r.secondary.volumes.items (ShownRefused refusal)

-- this stands against the two journals, or against asking this of them
abbrev pub IsRefusedAnswer : HolderAnswer → Type 0
IsRefusedAnswer (AnswerRefused ruling) = ⊤
IsRefusedAnswer _ = ⊥

-- the answer, where nothing stands against the spans
abbrev pub IsFitting : SpanTry → Option SpannedAnswer → Type 0
IsFitting (Answered a) (Some b) = (b ≡ a) × (IsRefusedAnswer a.answer → ⊥)
IsFitting (Answered a) None = IsRefusedAnswer a.answer
IsFitting (Refused refusal) (Some b) = ⊥
IsFitting (Refused refusal) None = ⊤

-- ---- whether earlier volumes may say more

-- what an earlier volume may change of why nobody is named
abbrev pub MayChange : NoHolderReason → Type 0
MayChange (Several first other) = ⊤
MayChange (Carried line) = ⊤
MayChange NotShown = ⊤
MayChange _ = ⊥

-- a lease that may have been its client's began in an earlier volume
abbrev pub HasCarried : List CandidateLease → Type 0
HasCarried leases = (lease : CandidateLease) × Has leases lease × (lease.state ≡ IsCarried)

-- an earlier volume may say more of why nobody is named
abbrev pub MaySayMore : NoHolder → Type 0
MaySayMore n = MayChange n.why × HasCarried n.leases.items

-- nobody is named, and earlier volumes may say more
abbrev pub AsksFurther : HolderAnswer → Type 0
AsksFurther (NotNamed n) = MaySayMore n
AsksFurther _ = ⊥
