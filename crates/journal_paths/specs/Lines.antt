-- The first lines of a text.
use Rattle.std.specs.Prelude.{ℕ, zero, suc, List, [], ◌∷◌, ◌==◌, if◌then◌else◌}
use Rattle.journal_paths.specs.declared.synced_lines.TheConstants.{LINE_FEED}

-- so many of them, each with its line feed, or all of the text where it has no more
abbrev pub first_lines : ℕ → List ℕ → List ℕ
first_lines zero text = []
first_lines (suc count) [] = []
first_lines (suc count) (b ∷ text) = b ∷ first_lines (if b == LINE_FEED then count else suc count) text
