-- Which lines of a shown journal stand in its server's volume.
use Rattle.std.specs.Prelude.{ℕ, ◌+◌, Bool, ◌&&◌, ◌==◌, List, [], ◌∷◌, length, if◌then◌else◌}
use Rattle.journal_lines.specs.Close.{is_close}
use Rattle.journal_lines.specs.declared.line.Line.{Line}

-- a close line with the next number, at the same reading: so the desk closes a volume that goes on behind this line
abbrev pub is_put_behind : (before l : Line) → Bool
is_put_behind before l = is_close l.event && ((l.number == before.number + 1) && (l.reading == before.reading))

-- the lines but for such a close line at their end
abbrev pub lines_before_put : List Line → List Line
lines_before_put [] = []
lines_before_put (l ∷ []) = l ∷ []
lines_before_put (l ∷ m ∷ []) = if is_put_behind l m then l ∷ [] else l ∷ m ∷ []
lines_before_put (l ∷ m ∷ n ∷ ls) = l ∷ lines_before_put (m ∷ n ∷ ls)

-- how many they are
abbrev pub lines_used : List Line → ℕ
lines_used ls = length (lines_before_put ls)
