-- What the desk answers where it is asked for the least skew that fits two journals.
use Rattle.std.specs.Prelude.{◌≡◌, ◌⊎◌, ℕ, List, Result, Ok, Err}
use Rattle.binding_rules.specs.declared.role.Role.TheVariants.{Primary, Secondary}
use Rattle.journal_lines.specs.declared.line.Journal.{Journal}
use Rattle.journal_lines.specs.declared.fault.JournalFault.{JournalFault}
use Rattle.journal_text.specs.Faults.{journal_of_side}
use Rattle.causal_order.specs.Journals.{journals_of}
use Rattle.attribution.specs.declared.verdict.Verdict.{Verdict}
use Rattle.attribution.specs.declared.verdict.Verdict.TheVariants.{Journal as JournalVerdict}
use Rattle.auditor.specs.Pair.{IsPairRefused, IsPairLegal}
use Rattle.pair_judgement.specs.Clocked.{IsLeastText}
use Rattle.attribution_desk.specs.Input.{first_text, text_behind}
use Rattle.attribution_desk.specs.Timeline.{IsRefusal}

-- what refuses the two journals, or else the least skew with which they could have been written
abbrev pub IsClocksOn : Journal → Journal → List ℕ → ℕ → Type 0
IsClocksOn a b text status =
    ((v : Verdict) × IsPairRefused a b v × IsRefusal v text status)
    ⊎ (IsPairLegal a b × IsLeastText (journals_of a b) text × (status ≡ 0))

-- a fault of A's text before one of B's
abbrev pub IsClocksOf : Result Journal JournalFault → Result Journal JournalFault → List ℕ → ℕ → Type 0
IsClocksOf (Err fault) b text status = IsRefusal (JournalVerdict Primary fault) text status
IsClocksOf (Ok a) (Err fault) text status = IsRefusal (JournalVerdict Secondary fault) text status
IsClocksOf (Ok a) (Ok b) text status = IsClocksOn a b text status

-- of an input: journal A, and journal B, which is all that follows
abbrev pub IsClocks : List ℕ → List ℕ → ℕ → Type 0
IsClocks input text status =
    IsClocksOf (journal_of_side Primary (first_text input)) (journal_of_side Secondary (text_behind input)) text status
