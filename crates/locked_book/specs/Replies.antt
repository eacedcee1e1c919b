-- What was told of the lines of a journal.
use Rattle.std.specs.Prelude.{◌≡◌, ℕ, ◌+◌, List, length, take, slice_get, Option, Some, None}
use Rattle.binding_rules.specs.declared.taking.Outcome.{Outcome}
use Rattle.journal_lines.specs.declared.line.Line.{Line}
use Rattle.journal_lines.specs.declared.line.Journal.{Journal}
use Rattle.order_book.specs.declared.reply.Reply.{Reply}
use Rattle.order_book.specs.declared.reply.Reply.TheVariants.{Taken}
use Rattle.order_book.specs.Answer.{reply_to}
use Rattle.order_book.specs.Replayed.{state_of}

-- what was made of a message, where the reply tells it: a line alone doesn't
abbrev pub outcome_in : Reply → Option Outcome
outcome_in (Taken outcome) = Some outcome
outcome_in _ = None

-- the journal's first so many lines
abbrev pub first_lines : Journal → ℕ → Journal
first_lines j count = record j { lines = take count j.lines }

-- what is told of a line behind so many
abbrev pub reply_behind : Journal → ℕ → Line → Reply
reply_behind j count l = reply_to (state_of (first_lines j count)) l.reading l.event

-- For bodies only: for each line behind the opening, what was made of the message that it takes.
pub record AreOutcomes (j : Journal) (opened : ℕ) (outcomes : List (Option Outcome)) : Type 0 where
  pub all : opened + length outcomes ≡ length j.lines
  pub each : (i : ℕ) (l : Line) → slice_get j.lines (opened + i) ≡ Some l
      → slice_get outcomes i ≡ Some (outcome_in (reply_behind j (opened + i) l))
