-- The timeline of two journals.
use Rattle.std.specs.Prelude.{◌≡◌, ℕ, List, [], ◌∷◌, ◌++◌, flat_map, Option, Some, None, Result, Ok, Err}
use Rattle.binding_rules.specs.declared.role.Role.TheVariants.{Primary, Secondary}
use Rattle.journal_lines.specs.declared.line.Line.{Line}
use Rattle.journal_lines.specs.declared.line.Journal.{Journal}
use Rattle.journal_lines.specs.declared.fault.JournalFault.{JournalFault}
use Rattle.journal_text.specs.Spelling.{entry_text}
use Rattle.journal_text.specs.Faults.{journal_of_side}
use Rattle.causal_order.specs.declared.reference.Ref.{Ref}
use Rattle.causal_order.specs.Journals.{Journals, journals_of, line_of}
use Rattle.journal_merge.specs.declared.merged.Merged.{Merged}
use Rattle.journal_merge.specs.declared.merged.MergeError.{MergeError}
use Rattle.journal_merge.specs.declared.merged.MergeError.TheVariants.{Unsent as NeverSent, Differs as SentOtherwise}
use Rattle.journal_merge.specs.declared.merged.MergeError.TheVariants.{Circular as InACircle, Memory}
use Rattle.journal_merge.specs.Answer.{IsMergeAnswer as IsMerge}
use Rattle.attribution.specs.declared.verdict.Verdict.{Verdict}
use Rattle.attribution.specs.declared.verdict.Verdict.TheVariants.{Journal as JournalVerdict, Unsent, Differs, Circular}
use Rattle.attribution.specs.VerdictText.{place_text, verdict_line}
use Rattle.attribution_desk.specs.Input.{first_text, text_behind}

-- a line as its journal has it, its number replaced by its reference
abbrev pub entry_line : Ref → Option Line → List ℕ
entry_line r None = []
entry_line r (Some l) = place_text r.side r.number ++ (entry_text l ++ 10 ∷ [])

-- lines in this order
abbrev pub lines_text : Journals → List Ref → List ℕ
lines_text js refs = flat_map (λ r. entry_line r (line_of js r)) refs

-- the line of a verdict that refuses
pub record IsRefusal (v : Verdict) (text : List ℕ) (status : ℕ) : Type 0 where
  pub line : text ≡ verdict_line v
  pub refused : status ≡ 1

-- both journals' lines in one order, or why there is none
abbrev pub IsOrderText : Journals → Result Merged MergeError → List ℕ → ℕ → Type 0
IsOrderText js (Ok merged) text status = (text ≡ lines_text js merged.refs) × (status ≡ 0)
IsOrderText js (Err (NeverSent take)) text status = IsRefusal (Unsent take) text status
IsOrderText js (Err (SentOtherwise take)) text status = IsRefusal (Differs take) text status
IsOrderText js (Err InACircle) text status = IsRefusal Circular text status
IsOrderText js (Err Memory) text status = ⊥

-- the order of two journals' lines, or why there is none
abbrev pub TellsOrder : Journals → List ℕ → ℕ → Type 0
TellsOrder js text status = (merged : Result Merged MergeError) × IsMerge js merged × IsOrderText js merged text status

-- a fault of A's text before one of B's; no rule is asked
abbrev pub IsTimelineOf : Result Journal JournalFault → Result Journal JournalFault → List ℕ → ℕ → Type 0
IsTimelineOf (Err fault) b text status = IsRefusal (JournalVerdict Primary fault) text status
IsTimelineOf (Ok a) (Err fault) text status = IsRefusal (JournalVerdict Secondary fault) text status
IsTimelineOf (Ok a) (Ok b) text status = TellsOrder (journals_of a b) text status

-- of an input: journal A, and journal B, which is all that follows
abbrev pub IsTimeline : List ℕ → List ℕ → ℕ → Type 0
IsTimeline input text status =
    IsTimelineOf (journal_of_side Primary (first_text input)) (journal_of_side Secondary (text_behind input))
    text status
