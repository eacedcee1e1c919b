-- What the desk warns of: that nothing ties the two journals together (K2), or them and the question (K3).
use Rattle.std.specs.Prelude.{◌≡◌, ⊤, ℕ, List, [], Result, Ok, Err}
use Rattle.binding_rules.specs.declared.role.Role.TheVariants.{Primary, Secondary}
use Rattle.journal_lines.specs.declared.line.Journal.{Journal}
use Rattle.journal_lines.specs.declared.fault.JournalFault.{JournalFault}
use Rattle.journal_text.specs.Faults.{journal_of_side}
use Rattle.pair_judgement.specs.Ties.{IsWarning}
use Rattle.desk_args.specs.declared.command.Command.{Command}
use Rattle.desk_args.specs.declared.command.Command.TheVariants.{Audit, Batch, Timeline, Clocks, Find, Who}
use Rattle.attribution_desk.specs.declared.search.Search.{Search}
use Rattle.attribution_desk.specs.declared.search.Search.TheVariants.{Find as FindEvidence, Who as FindHolder}
use Rattle.attribution_desk.specs.Input.{first_text, text_behind}

-- of what two texts are as journals; none where one is no journal
abbrev pub IsWarningOf : Result Journal JournalFault → Result Journal JournalFault → (skew transit : ℕ)
    → List ℕ → Type 0
IsWarningOf (Ok a) (Ok b) skew transit text = IsWarning a b skew transit text
IsWarningOf (Ok a) (Err fault) skew transit text = text ≡ []
IsWarningOf (Err fault) b skew transit text = text ≡ []

-- of an input of two journals and certificates
abbrev pub IsJudgingWarning : List ℕ → (skew transit : ℕ) → List ℕ → Type 0
IsJudgingWarning input skew transit text =
    IsWarningOf
    (journal_of_side Primary (first_text input))
    (journal_of_side Secondary (first_text (text_behind input)))
    skew transit text

-- who asks for evidence is warned, who asks for a name is refused
abbrev pub WarnsOf : Search → Result Journal JournalFault → Result Journal JournalFault → List ℕ → Type 0
WarnsOf (FindEvidence q) a b text = IsWarningOf a b q.skew q.transit text
WarnsOf (FindHolder q settings) a b text = text ≡ []

-- what a command warns of; of a search's warnings its answer says more
abbrev pub Warns : Command → List ℕ → List ℕ → Type 0
Warns (Audit skew transit) input text = IsJudgingWarning input skew transit text
Warns (Batch skew transit workers) input text = IsJudgingWarning input skew transit text
Warns Timeline input text = text ≡ []
Warns Clocks input text = text ≡ []
Warns (Find query) input text = ⊤
Warns (Who query settings) input text = ⊤
