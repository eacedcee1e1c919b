-- For bodies only: the lines that answer a question, in the order of the journals.
use Rattle.std.specs.Prelude.{ℕ, ◌+◌, Bool, false, List, [], ◌∷◌, ◌++◌, drop, if◌then◌else◌}
use Rattle.binding_rules.specs.declared.role.Role.{Role}
use Rattle.binding_rules.specs.declared.role.Role.TheVariants.{Primary, Secondary}
use Rattle.prefix_range.specs.Prefix.{Prefix}
use Rattle.journal_lines.specs.declared.event.Event.{Event}
use Rattle.journal_lines.specs.declared.event.Event.TheVariants.{Grant, Carry, Release}
use Rattle.journal_lines.specs.declared.line.Line.{Line}
use Rattle.causal_order.specs.declared.reference.Ref.{Ref}
use Rattle.causal_order.specs.Journals.{Journals}
use Rattle.attribution.specs.Tests.{overlaps, is_release_of}
use Rattle.attribution.specs.declared.delegation.Delegation.{Delegation}
use Rattle.auditor.specs.declared.question.EventQuestion.{EventQuestion}
use Rattle.auditor.specs.declared.question.EventQuestion.TheVariants.{Overlapping, GivingBack}
use Rattle.auditor.specs.declared.walk.Walk.{Walk}

-- the event grants or carries a prefix that overlaps this one, or gives one back
abbrev pub concerns : Prefix → Event → Bool
concerns p (Grant g) = overlaps g.prefix p
concerns p (Carry c) = overlaps c.prefix p
concerns p (Release client iaid q) = overlaps q p
concerns p _ = false

-- the event answers the question
abbrev pub answers : EventQuestion → Event → Bool
answers (Overlapping p) e = concerns p e
answers (GivingBack d) e = is_release_of d e

-- the lines of a side that pass the test, where the first has this number
abbrev pub passing_from : (Event → Bool) → Role → ℕ → List Line → List Ref
passing_from t side number [] = []
passing_from t side number (l ∷ lines) =
    if t l.event
    then record { side = side; number = number } ∷ passing_from t side (number + 1) lines
    else passing_from t side (number + 1) lines

-- those of the primary from the one index on, and then those of the secondary from the other on
abbrev pub passing : (Event → Bool) → Journals → (first second : ℕ) → List Ref
passing t js first second =
    passing_from t Primary (first + 1) (drop first js.a.lines)
    ++ passing_from t Secondary (second + 1) (drop second js.b.lines)

abbrev pub left_of : Journals → Prefix → Walk → List Ref
left_of js p walk = passing (concerns p) js walk.next walk.onward

abbrev pub returned_of : Journals → Delegation → Walk → List Ref
returned_of js d walk = passing (is_release_of d) js walk.next walk.onward
