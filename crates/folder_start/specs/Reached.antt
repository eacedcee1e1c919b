-- What a volume's lines tell of the book before them, and what of the partner's answers the volume.
use Rattle.std.specs.Prelude.{◌≡◌, ℕ, ◌<◌, Contains, List, [], ◌∷◌, if◌then◌else◌}
use Rattle.prefix_range.specs.Prefix.{Prefix}
use Rattle.binding_rules.specs.declared.message.PartnerMessage.{PartnerMessage}
use Rattle.binding_rules.specs.declared.message.Body.{Body}
use Rattle.binding_rules.specs.declared.message.Body.TheVariants.{Update, Reply, Contact}
use Rattle.journal_lines.specs.declared.event.Event.{Event}
use Rattle.journal_lines.specs.declared.event.Event.TheVariants.{Base, Unit, Take}
use Rattle.journal_lines.specs.declared.line.Line.{Line}
use Rattle.book_state.specs.Effects.{same_prefix}

-- ---- the book before a volume, by the first line that says it

abbrev pub restart_in : Event → ℕ → ℕ
restart_in (Base numbers) behind = numbers.restart
restart_in _ behind = behind

-- how often the server had begun again
abbrev pub restarts_before : List Line → ℕ
restarts_before [] = 0
restarts_before (l ∷ ls) = restart_in l.event (restarts_before ls)

abbrev pub change_in : Prefix → Event → ℕ → ℕ
change_in p (Unit kept) behind = if same_prefix p kept.prefix then kept.mine else behind
change_in p _ behind = behind

-- the number of a unit's last change
abbrev pub change_before : Prefix → List Line → ℕ
change_before p [] = 0
change_before p (l ∷ ls) = change_in p l.event (change_before p ls)

-- ---- what the partner says

-- it answers a change that was made in the volume, or a restart
abbrev pub AnswersVolume : List Line → Body → Type 0
AnswersVolume lines (Update u) = ⊥
AnswersVolume lines (Reply r) = change_before r.prefix lines < r.of
AnswersVolume lines (Contact ask answer) = restarts_before lines < answer

-- a line of the volume takes a message that answers it
pub record HasReached (lines : List Line) : Type 0 where
  pub line : Line
  pub within : Contains lines line
  pub message : PartnerMessage
  pub takes : line.event ≡ Take message
  pub answers : AnswersVolume lines message.body
