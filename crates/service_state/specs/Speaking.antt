-- When a server told its partner anything last.
use Rattle.std.specs.Prelude.{ℕ, Bool, true, false, Option, Some, None, List, [], ◌∷◌, if◌then◌else◌}
use Rattle.binding_rules.specs.declared.message.Body.{Body}
use Rattle.binding_rules.specs.declared.message.Body.TheVariants.{Contact}
use Rattle.journal_lines.specs.declared.event.Event.{Event}
use Rattle.journal_lines.specs.declared.event.Event.TheVariants.{Take}
use Rattle.journal_lines.specs.declared.line.Line.{Line}

abbrev pub is_contact : Body → Bool
is_contact (Contact ask answer) = true
is_contact _ = false

-- the reading of a line; none where it takes a contact of the partner's, and so the partner hears nothing of it
abbrev pub spoken_in : (reading : ℕ) → Event → Option ℕ
spoken_in reading (Take message) = if is_contact message.body then None else Some reading
spoken_in reading _ = Some reading

abbrev pub or_last : (last : ℕ) → Option ℕ → ℕ
or_last last None = last
or_last last (Some reading) = reading

-- when the partner was told anything last, where before the line it was at `last`
abbrev pub spoken_by : (last : ℕ) → Line → ℕ
spoken_by last line = or_last last (spoken_in line.reading line.event)

-- the reading of the last line that isn't the take of a contact, and this one where there is none
abbrev pub last_spoken : (last : ℕ) → List Line → ℕ
last_spoken last [] = last
last_spoken last (line ∷ lines) = last_spoken (spoken_by last line) lines
