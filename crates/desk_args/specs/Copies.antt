-- Which text `copy` prints, as the words say it.
use Rattle.std.specs.Prelude.{ℕ, ◌<◌, List, Option, codes}
use Rattle.clap.specs.Words.{Row, Text, first_of}
use Rattle.desk_args.specs.declared.copy_args.CopyQuery.{CopyQuery}
use Rattle.desk_args.specs.Given.{IsNumber}
use Rattle.desk_args.specs.Joins.{IsJoinQuery}

-- a number of lines, 1 to 2^48
abbrev pub IsLineCount : Option Text → ℕ → Type 0
IsLineCount text lines = IsNumber 281474976710656 text lines × (0 < lines)

-- of which volumes, and up to which line of the journal that they are together
pub record IsCopyQuery (rows : List Row) (q : CopyQuery) : Type 0 where
  pub volumes : IsJoinQuery rows q.volumes
  pub lines : IsLineCount (first_of (codes "lines") rows) q.lines
