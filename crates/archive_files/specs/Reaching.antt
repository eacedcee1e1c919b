-- How far two journals reach: a certificate for an interval asks that each closes at its end and the skew, or later.
use Rattle.std.specs.Prelude.{ℕ, ◌-◌, min, List, Option, Some, None, length, slice_get}
use Rattle.journal_lines.specs.declared.line.Line.{Line}
use Rattle.journal_archive.specs.declared.pair.PairJournals.{PairJournals}

abbrev pub reading_of : Option Line → Option ℕ
reading_of (Some l) = Some l.reading
reading_of None = None

abbrev pub last_reading : List Line → Option ℕ
last_reading lines = reading_of (slice_get lines (length lines - 1))

abbrev pub until_by : ℕ → Option ℕ → Option ℕ → Option ℕ
until_by skew (Some a) (Some b) = Some (min a b - skew)
until_by skew _ _ = None

-- the earlier of the two last readings, less the skew
abbrev pub shown_until : ℕ → PairJournals → Option ℕ
shown_until skew shown = until_by skew (last_reading shown.primary.lines) (last_reading shown.secondary.lines)
