-- Who held a prefix at a moment, by files.
use Rattle.std.specs.Prelude.{◌≡◌, ◌⊎◌, ℕ, true, false, List, []}
use Rattle.causal_order.specs.declared.certificate.Certificate.{Certificate}
use Rattle.certificate.specs.Spelling.{certificate_text}
use Rattle.plain_search.specs.declared.query.HolderQuery.{HolderQuery}
use Rattle.desk_args.specs.declared.settings.SettingsCheck.{SettingsCheck}
use Rattle.journal_archive.specs.declared.archive.Archive.{Archive}
use Rattle.journal_archive.specs.declared.outline.FiledVolume.{FiledVolume}
use Rattle.journal_archive.specs.declared.pair_lookup.VolumePair.{VolumePair}
use Rattle.journal_archive.specs.declared.pair_lookup.PairLookup.TheVariants.{Lacking as IsLacking}
use Rattle.journal_archive.specs.PairLookups.{IsPairLookup}
use Rattle.access_records.specs.Spelling.{TextValue}
use Rattle.access_records.specs.declared.beside.VolumeFile.{VolumeFile}
use Rattle.access_records.specs.Beside.{IsSaidBeside}
use Rattle.holder_answers.specs.declared.answer.HolderAnswer.TheVariants.{Held}
use Rattle.volume_spans.specs.declared.span.SpanPair.{SpanPair}
use Rattle.volume_spans.specs.declared.refusal.JoinRefusal.{JoinRefusal}
use Rattle.joined_answers.specs.declared.answer.SpannedAnswer.{SpannedAnswer}
use Rattle.joined_answers.specs.declared.widening.SpanReply.TheVariants.{Answered as SpansAnswered, Lacking as SpansLacking}
use Rattle.joined_answers.specs.declared.widening.SpanReply.TheVariants.{Refused as SpansRefused}
use Rattle.joined_answers.specs.Widening.{IsReply}
use Rattle.archive_desk.specs.Names.{is_single}
use Rattle.archive_desk.specs.declared.holding.HolderReply.{HolderReply}
use Rattle.archive_desk.specs.declared.holding.HolderReply.TheVariants.{Answered, Lacking}
use Rattle.archive_desk.specs.declared.holding.WhoAnswer.{WhoAnswer}

-- the reply that an answer over spans of volumes is
abbrev pub reply_of : SpannedAnswer → HolderReply
reply_of a = Answered a.pair a.spans a.answer a.until

-- no pair of volumes shows the moment: which side lacks it, and why
abbrev pub IsLackingAt : Archive → HolderQuery → HolderReply → Type 0
IsLackingAt archive q (Answered pair spans answer until) = ⊥
IsLackingAt archive q (Lacking side lack) =
    IsPairLookup archive.primary archive.secondary q.skew q.transit q.at (IsLacking side lack)

-- The desk's answer over the volumes that show the moment, or over earlier ones too; or which side lacks it, and why: also
-- where it lies in a roll and the two volumes of that aren't one journal.
abbrev pub IsHolderAt : (had : ℕ → List ℕ → Type 0) → Archive → HolderQuery → SettingsCheck → HolderReply → Type 0
IsHolderAt had archive q settings (Answered pair spans answer until) =
    (a : SpannedAnswer) × IsReply had archive q settings (SpansAnswered a)
    × (Answered pair spans answer until ≡ reply_of a)
IsHolderAt had archive q settings (Lacking side lack) =
    IsReply had archive q settings (SpansLacking side lack)
    ⊎ (((refusal : JoinRefusal) × IsReply had archive q settings (SpansRefused refusal))
    × IsLackingAt archive q (Lacking side lack))

-- ---- access records

-- a volume and its file, as access records name them
abbrev pub volume_of : FiledVolume → VolumeFile
volume_of f = record { file = f.file; volume = record { side = f.outline.side; volume = f.outline.number } }

-- Says tells of a file what the text of access records beside it says.

-- what is said of the grants that a certificate names, by the records beside its two volumes
abbrev pub IsAccessBeside : (ℕ → TextValue → Type 0) → VolumePair → Certificate → List ℕ → Type 0
IsAccessBeside Says pair certificate text =
    IsSaidBeside Says (certificate_text certificate) (volume_of pair.primary) (volume_of pair.secondary) text

-- where they are one of each side; of several nothing is said
abbrev pub IsAccessOver : (ℕ → TextValue → Type 0) → VolumePair → SpanPair → Certificate → List ℕ → Type 0
IsAccessOver Says pair spans certificate text =
    (is_single spans ≡ true → IsAccessBeside Says pair certificate text) × (is_single spans ≡ false → text ≡ [])

-- of those that show a holder
abbrev pub IsAccessOf : (ℕ → TextValue → Type 0) → HolderReply → List ℕ → Type 0
IsAccessOf Says (Answered pair spans (Held certificate) until) text = IsAccessOver Says pair spans certificate text
IsAccessOf Says (Answered pair spans _ until) text = text ≡ []
IsAccessOf Says (Lacking side lack) text = text ≡ []

-- the question, the reply, and what access records say
pub record IsWho (had : ℕ → List ℕ → Type 0) (Says : ℕ → TextValue → Type 0) (archive : Archive) (q : HolderQuery)
    (settings : SettingsCheck) (answer : WhoAnswer) : Type 0 where
  pub asked : answer.query ≡ q
  pub replied : IsHolderAt had archive q settings answer.reply
  pub access : IsAccessOf Says answer.reply answer.access.items
