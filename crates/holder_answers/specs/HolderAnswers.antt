-- What the desk answers to who held a prefix at a moment.
use Rattle.std.specs.Prelude.{⊤, Result, Ok}
use Rattle.journal_lines.specs.declared.fault.JournalFault.{JournalFault}
use Rattle.journal_lines.specs.declared.line.Journal.{Journal}
use Rattle.causal_order.specs.Journals.{Journals, journals_of}
use Rattle.plain_search.specs.declared.query.HolderQuery.{HolderQuery}
use Rattle.desk_args.specs.declared.settings.SettingsCheck.{SettingsCheck}
use Rattle.attribution_desk.specs.declared.search.Search.TheVariants.{Who}
use Rattle.attribution_desk.specs.declared.finding.Finding.TheVariants.{Shown, NoneFound, TooLong as FoundTooLong}
use Rattle.attribution_desk.specs.declared.search_answer.SearchAnswer.{SearchAnswer}
use Rattle.attribution_desk.specs.declared.search_answer.SearchAnswer.TheVariants.{Refused as SearchRefused, Found}
use Rattle.attribution_desk.specs.Searching.{IsSearchOn, IsSearchOf}
use Rattle.candidate_leases.specs.declared.volume_ends.VolumeEnds.{VolumeEnds}
use Rattle.candidate_leases.specs.Conditions.{asked_of}
use Rattle.candidate_leases.specs.Leases.{AreNearLeases}
use Rattle.candidate_leases.specs.Why.{case_of, IsWhy}
use Rattle.holder_answers.specs.declared.answer.NoHolder.{NoHolder}
use Rattle.holder_answers.specs.declared.answer.HolderAnswer.{HolderAnswer}
use Rattle.holder_answers.specs.declared.answer.HolderAnswer.TheVariants.{Held, Refused, NotNamed, TooLong}

-- what the search answered: how the answer is written is said of that (attribution_desk, specs/Searching)
abbrev pub search_of : HolderAnswer → SearchAnswer
search_of (Held certificate) = Found (Shown certificate)
search_of (Refused ruling) = SearchRefused ruling
search_of (NotNamed n) = Found NoneFound
search_of (TooLong n) = Found FoundTooLong

-- the delegations near the moment, and the first reason that holds over both journals
abbrev pub IsNoHolder : Journals → HolderQuery → VolumeEnds → NoHolder → Type 0
IsNoHolder js query ends n =
    AreNearLeases js query.prefix (asked_of query) n.leases.items × IsWhy (case_of js query ends) n.leases.items n.why

-- where nobody is named, why
abbrev pub IsReasoned : Journals → HolderQuery → VolumeEnds → HolderAnswer → Type 0
IsReasoned js query ends (Held certificate) = ⊤
IsReasoned js query ends (Refused ruling) = ⊤
IsReasoned js query ends (NotNamed n) = IsNoHolder js query ends n
IsReasoned js query ends (TooLong n) = IsNoHolder js query ends n

-- what the search answers over two journals, and why nobody is named where it names nobody
pub record IsAnswerOver (a b : Journal) (query : HolderQuery) (settings : SettingsCheck) (ends : VolumeEnds)
    (answer : HolderAnswer) : Type 0 where
  pub searched : IsSearchOn a b (Who query settings) (search_of answer)
  pub reasoned : IsReasoned (journals_of a b) query ends answer

-- of what two texts are as journals: what the search answers; over two journals, why nobody is named
abbrev pub IsHolderAnswer : Result Journal JournalFault → Result Journal JournalFault → HolderQuery → SettingsCheck
    → VolumeEnds → HolderAnswer → Type 0
IsHolderAnswer (Ok a) (Ok b) query settings ends answer = IsAnswerOver a b query settings ends answer
IsHolderAnswer a b query settings ends answer = IsSearchOf a b (Who query settings) (search_of answer)
