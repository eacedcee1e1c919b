-- For bodies only: what the first lines of a volume say of the settings.
use Rattle.std.specs.Prelude.{Bool, true, false, List, [], ◌∷◌, ◌++◌, if◌then◌else◌}
use Rattle.journal_lines.specs.declared.event.Event.{Event}
use Rattle.journal_lines.specs.declared.event.Event.TheVariants.{Open, Pool as PoolLine, Transit as TransitLine}
use Rattle.journal_lines.specs.declared.line.Line.{Line}
use Rattle.server_start.specs.Opening.{Opened}

-- the line says a setting
abbrev pub is_setting : Event → Bool
is_setting (Open skew mclt life) = true
is_setting (PoolLine prefix unit) = true
is_setting (TransitLine d) = true
is_setting _ = false

-- with what an event says
abbrev pub with_event : Opened → Event → Opened
with_event o (Open skew mclt life) = record o { skew = skew; mclt = mclt; life = life }
with_event o (PoolLine prefix unit) =
    record o { pools = o.pools ++ record { prefix = prefix; unit_length = unit } ∷ [] }
with_event o (TransitLine d) = record o { transit = d }
with_event o _ = o

-- with what lines say, up to the first that says no setting
abbrev pub with_lines : Opened → List Line → Opened
with_lines o [] = o
with_lines o (l ∷ ls) = if is_setting l.event then with_lines (with_event o l.event) ls else o
