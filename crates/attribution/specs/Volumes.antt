-- The volumes of one server: all that it writes, cut at its close lines.
use Rattle.std.specs.Prelude.{ℕ, zero, suc, List, [], ◌∷◌, if◌then◌else◌}
use Rattle.journal_lines.specs.declared.line.Line.{Line}
use Rattle.journal_lines.specs.Close.{is_close, until_close}

-- the lines behind the first close line
abbrev pub past_close : List Line → List Line
past_close [] = []
past_close (l ∷ ls) = if is_close l.event then ls else past_close ls

-- the volume at an index, from 0
abbrev pub volume_at : ℕ → List Line → List Line
volume_at zero ls = until_close ls
volume_at (suc n) ls = volume_at n (past_close ls)

-- the first so many volumes
abbrev pub volumes_in : ℕ → List Line → List (List Line)
volumes_in zero ls = []
volumes_in (suc n) ls = until_close ls ∷ volumes_in n (past_close ls)
