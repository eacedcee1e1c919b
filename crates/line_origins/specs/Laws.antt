-- That origins are true.
use Rattle.std.specs.Prelude.{◌≡◌, ℕ, ◌+◌, List, Some, Contains as Has, slice_get}
use Rattle.journal_lines.specs.declared.line.Line.{Line}
use Rattle.journal_lines.specs.declared.line.Journal.{Journal}
use Rattle.volume_spans.specs.declared.reading.ReadVolume.{ReadVolume}
use Rattle.volume_spans.specs.Together.{IsTogether}
use Rattle.line_origins.specs.declared.finding.LineOrigin.{LineOrigin}
use Rattle.line_origins.specs.Parts.{lines_in, parts_of, origin_in}

-- the line that an origin names in one of the volumes is this one, but for its number
pub record IsOriginOf (rs : List ReadVolume) (l : Line) (o : LineOrigin) : Type 0 where
  pub read : ReadVolume
  pub has : Has rs read
  pub volume : o.volume ≡ read.filed.outline.number
  pub index : ℕ
  pub line : o.line ≡ index + 1
  pub own : Line
  pub there : slice_get (lines_in read) index ≡ Some own
  pub same : l ≡ record own { number = l.number }

-- of volumes that are one journal, each line has an origin, which is true
abbrev pub OriginsAreTrue : Type 0
OriginsAreTrue = (rs : List ReadVolume) (j : Journal) → IsTogether rs j → (index : ℕ) (l : Line)
    → slice_get j.lines index ≡ Some l
    → (o : LineOrigin) × (origin_in (parts_of rs) (index + 1) ≡ Some o) × IsOriginOf rs l o
