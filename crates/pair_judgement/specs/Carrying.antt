-- Lines at the beginning of a volume that carry what no legal volume leaves. In a volume that keeps the rules the carry
-- lines and the unit lines stand there, and nowhere else (rule 18).
use Rattle.std.specs.Prelude.{ℕ, ◌+◌, ◌<◌, List, [], ◌∷◌, Option, MatchOption}
use Rattle.journal_lines.specs.declared.event.Event.{Event}
use Rattle.journal_lines.specs.declared.event.Event.TheVariants.{Carry, Unit as UnitLine}
use Rattle.journal_lines.specs.declared.line.Line.{Line}
use Rattle.causal_order.specs.declared.reference.Ref.{Ref}
use Rattle.causal_order.specs.Journals.{Journals, journal_of, Names}
use Rattle.causal_order.specs.LineOrder.{IsLeast}

-- No lease that a legal volume leaves ends so many milliseconds after the next volume's open line: it lasts three
-- times 31,536,000 s at most, and twice the greatest skew and the greatest transit longer.
abbrev pub longest_left : ℕ
longest_left = 100000000000

-- what the open line reads, which is the first one
abbrev pub opened_at : List Line → ℕ
opened_at [] = 0
opened_at (l ∷ ls) = l.reading

-- END of the carry line, or OWNEND of the unit line, lies further after this reading
abbrev pub EndsTooLate : (opened : ℕ) → Event → Type 0
EndsTooLate opened (Carry c) = opened + longest_left < c.end
EndsTooLate opened (UnitLine k) = opened + longest_left < k.own_end
EndsTooLate opened _ = ⊥

-- a line carries what no legal volume leaves
abbrev pub CarriesTooMuch : Journals → Ref → Type 0
CarriesTooMuch js r = (l : Line) × Names js r l × EndsTooLate (opened_at (journal_of js r.side)) l.event

-- no line does
abbrev pub NoneCarriesTooMuch : Journals → Type 0
NoneCarriesTooMuch js = (r : Ref) → CarriesTooMuch js r → ⊥

-- the first one that does, A's before B's; none where no line does
abbrev pub IsFirstCarrying : Journals → Option Ref → Type 0
IsFirstCarrying js line = MatchOption line (NoneCarriesTooMuch js) (IsLeast (CarriesTooMuch js))
