-- Which of the joined lines each volume has, and where a joined line comes from.
use Rattle.std.specs.Prelude.{ℕ, ◌+◌, ◌-◌, ◌^◌, ◌≤◌, ◌&&◌, ⊤, Bool, List, [], ◌∷◌, Option, Some, None, length, nat_lt, nat_le}
use Rattle.std.specs.Prelude.{if◌then◌else◌}
use Rattle.journal_lines.specs.declared.line.Line.{Line}
use Rattle.journal_lines.specs.declared.line.Journal.{Journal}
use Rattle.book_rules.specs.NextHead.{head_lines}
use Rattle.volume_join.specs.Joined.{unclosed, behind_head}
use Rattle.volume_spans.specs.declared.reading.ReadVolume.{ReadVolume}
use Rattle.volume_spans.specs.Together.{IsTogether}
use Rattle.line_origins.specs.declared.parts.VolumePart.{VolumePart}
use Rattle.line_origins.specs.declared.finding.LineOrigin.{LineOrigin}

abbrev pub lines_in : ReadVolume → List Line
lines_in r = r.volume.journal.lines

-- a volume alone has all its lines
abbrev pub whole_part : ReadVolume → VolumePart
whole_part r = record { volume = r.filed.outline.number; head = 0; before = 0; until = length (lines_in r) }

-- a further volume has what stands behind its head lines, and goes on behind the lines before the close line
abbrev pub next_part : (open_lines : ℕ) → ReadVolume → VolumePart
next_part open_lines r = record {
  volume = r.filed.outline.number;
  head = length (head_lines (lines_in r));
  before = open_lines;
  until = open_lines + length (behind_head (lines_in r));
}

-- The parts of a volume and of further ones, where so many of the lines joined so far stand before the close line, which
-- a further volume takes the place of.
abbrev pub parts_from : VolumePart → (open_lines : ℕ) → List ReadVolume → List VolumePart
parts_from p open_lines [] = p ∷ []
parts_from p open_lines (r ∷ rs) =
    record p { until = open_lines }
    ∷ parts_from (next_part open_lines r) (open_lines + length (unclosed (behind_head (lines_in r)))) rs

abbrev pub parts_of : List ReadVolume → List VolumePart
parts_of [] = []
parts_of (r ∷ rs) = parts_from (whole_part r) (length (unclosed (lines_in r))) rs

-- the joined line of this number is the volume's
abbrev pub has_line : VolumePart → ℕ → Bool
has_line p number = nat_lt p.before number && nat_le number p.until

-- the volume's own number of it, past the head lines
abbrev pub origin_at : VolumePart → ℕ → LineOrigin
origin_at p number = record { volume = p.volume; line = p.head + (number - p.before) }

-- the volume that has the joined line of this number, and its own number there
abbrev pub origin_in : List VolumePart → ℕ → Option LineOrigin
origin_in [] number = None
origin_in (p ∷ ps) number = if has_line p number then Some (origin_at p number) else origin_in ps number

-- ---- volumes whose lines can be counted so

-- these volumes are one journal
abbrev pub AreTogether : List ReadVolume → Type 0
AreTogether rs = (j : Journal) × IsTogether rs j

-- a further volume's lines, behind so many, are no more than a journal may have
pub record FitsBehind (open_lines : ℕ) (r : ReadVolume) : Type 0 where
  pub head : length (head_lines (lines_in r)) ≤ 2 ^ 20
  pub lines : open_lines + length (behind_head (lines_in r)) ≤ 2 ^ 20

abbrev pub AllFitBehind : (open_lines : ℕ) → List ReadVolume → Type 0
AllFitBehind open_lines [] = ⊤
AllFitBehind open_lines (r ∷ rs) =
    FitsBehind open_lines r × AllFitBehind (open_lines + length (unclosed (behind_head (lines_in r)))) rs
