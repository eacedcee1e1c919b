-- How a journal is closed.
use Rattle.std.specs.Prelude.{◌≡◌, ℕ, List, Contains as Has}
use Rattle.journal_lines.specs.declared.event.Event.TheVariants.{Close}
use Rattle.journal_lines.specs.declared.line.Line.{Line}

-- some line closes the journal, and each line that does shows this reading
pub record ClosesAt (lines : List Line) (reading : ℕ) : Type 0 where
  pub some : (l : Line) × Has lines l × (l.event ≡ Close)
  pub each : (l : Line) → Has lines l → l.event ≡ Close → l.reading ≡ reading
