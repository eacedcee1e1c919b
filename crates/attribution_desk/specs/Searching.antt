-- What a search of two journals answers: what refuses them first, then what forbids to name a client over them.
use Rattle.std.specs.Prelude.{◌≡◌, ◌⊎◌, ◌++◌, ⊤, ℕ, List, [], Result, Ok, Err}
use Rattle.binding_rules.specs.declared.role.Role.TheVariants.{Primary, Secondary}
use Rattle.journal_lines.specs.declared.line.Journal.{Journal}
use Rattle.journal_lines.specs.declared.fault.JournalFault.{JournalFault}
use Rattle.journal_text.specs.Faults.{journal_of_side}
use Rattle.causal_order.specs.Journals.{Journals, journals_of}
use Rattle.attribution.specs.declared.verdict.Verdict.TheVariants.{Journal as JournalVerdict}
use Rattle.pair_judgement.specs.declared.judging.Judgement.{Judgement}
use Rattle.pair_judgement.specs.declared.judging.Judgement.TheVariants.{Verdict}
use Rattle.pair_judgement.specs.Judgements.{judgement_line, status_of as ruling_status}
use Rattle.pair_judgement.specs.PairJudgements.{IsRuledOut, IsFit}
use Rattle.pair_judgement.specs.Ties.{AreTied, IsDoubted}
use Rattle.desk_args.specs.declared.settings.SettingsCheck.TheVariants.{MustAgree, MayDiffer}
use Rattle.attribution_desk.specs.declared.search.Search.{Search}
use Rattle.attribution_desk.specs.declared.search.Search.TheVariants.{Find, Who}
use Rattle.attribution_desk.specs.Input.{first_text, text_behind}
use Rattle.attribution_desk.specs.declared.finding.Finding.{Finding}
use Rattle.attribution_desk.specs.declared.search_answer.SearchAnswer.{SearchAnswer}
use Rattle.attribution_desk.specs.declared.search_answer.SearchAnswer.TheVariants.{Refused, Found}
use Rattle.attribution_desk.specs.Find.{IsFinding, evidence_text, finding_status, finding_note}
use Rattle.attribution_desk.specs.Who.{IsHolding, TellsHolder}
use Rattle.attribution_desk.specs.Warnings.{WarnsOf}

-- the skew that is asked with
abbrev pub skew_of : Search → ℕ
skew_of (Find q) = q.skew
skew_of (Who q settings) = q.skew

-- the transit
abbrev pub transit_of : Search → ℕ
transit_of (Find q) = q.transit
transit_of (Who q settings) = q.transit

-- who asks for a name is refused where nothing ties the journals and the question together, unless that may be
abbrev pub Forbids : Search → Journal → Journal → Judgement → Type 0
Forbids (Who q MustAgree) a b r = IsDoubted a b q.skew q.transit r
Forbids (Who q MayDiffer) a b r = ⊥
Forbids (Find q) a b r = ⊥

abbrev pub Allows : Search → Journal → Journal → Type 0
Allows (Who q MustAgree) a b = AreTied a b q.skew q.transit
Allows (Who q MayDiffer) a b = ⊤
Allows (Find q) a b = ⊤

-- what is found in the journals
abbrev pub IsFindingOf : Search → Journals → Finding → Type 0
IsFindingOf (Find q) js f = IsFinding js q f
IsFindingOf (Who q settings) js f = IsHolding js q f

-- what forbids to ask this of the two journals, or else what is found in them
abbrev pub IsAsked : Search → Journal → Journal → Journals → SearchAnswer → Type 0
IsAsked q a b js answer =
    ((r : Judgement) × Forbids q a b r × (answer ≡ Refused r))
    ⊎ (Allows q a b × ((f : Finding) × IsFindingOf q js f × (answer ≡ Found f)))

-- what stands against the two journals, or else that
abbrev pub IsSearchOn : Journal → Journal → Search → SearchAnswer → Type 0
IsSearchOn a b q answer =
    ((r : Judgement) × IsRuledOut a b (skew_of q) r × (answer ≡ Refused r))
    ⊎ (IsFit a b (skew_of q) × IsAsked q a b (journals_of a b) answer)

-- a fault of A's text before one of B's
abbrev pub IsSearchOf : Result Journal JournalFault → Result Journal JournalFault → Search → SearchAnswer → Type 0
IsSearchOf (Err fault) b q answer = answer ≡ Refused (Verdict (JournalVerdict Primary fault))
IsSearchOf (Ok a) (Err fault) q answer = answer ≡ Refused (Verdict (JournalVerdict Secondary fault))
IsSearchOf (Ok a) (Ok b) q answer = IsSearchOn a b q answer

-- ---- how it is written

-- of a search for evidence: the line of what stands against it, or else the certificate's text, or that there is none
abbrev pub answer_text : SearchAnswer → List ℕ
answer_text (Refused r) = judgement_line r
answer_text (Found f) = evidence_text f

-- of one for a holder: that line, or else who held it and when, and the certificate, or that there is none
abbrev pub TellsAnswer : SearchAnswer → List ℕ → Type 0
TellsAnswer (Refused r) text = text ≡ judgement_line r
TellsAnswer (Found f) text = TellsHolder f text

-- as it was searched for
abbrev pub Tells : Search → SearchAnswer → List ℕ → Type 0
Tells (Find q) answer text = text ≡ answer_text answer
Tells (Who q settings) answer text = TellsAnswer answer text

-- 0 where evidence was found
abbrev pub status_of : SearchAnswer → ℕ
status_of (Refused r) = ruling_status r
status_of (Found f) = finding_status f

-- a line for a person, where what was found isn't given
abbrev pub note_of : SearchAnswer → List ℕ
note_of (Refused r) = []
note_of (Found f) = finding_note f

-- its text, its status, and the warnings on the journals in front of what is noted of it
abbrev pub IsPairTold : Result Journal JournalFault → Result Journal JournalFault → Search → List ℕ → ℕ → List ℕ
    → Type 0
IsPairTold a b q text status notes =
    (answer : SearchAnswer) × IsSearchOf a b q answer × Tells q answer text × (status ≡ status_of answer)
    × ((front : List ℕ) × WarnsOf q a b front × (notes ≡ front ++ note_of answer))

-- of an input: journal A, and journal B, which is all that follows
abbrev pub IsSearchTold : List ℕ → Search → List ℕ → List ℕ → ℕ → Type 0
IsSearchTold input q warnings text status =
    IsPairTold (journal_of_side Primary (first_text input)) (journal_of_side Secondary (text_behind input))
    q text status warnings
