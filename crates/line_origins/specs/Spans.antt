-- The parts of both sides.
use Rattle.std.specs.Prelude.{◌≡◌, ℕ, ◌<◌, ◌⊎◌, Option, length}
use Rattle.binding_rules.specs.declared.role.Role.{Role}
use Rattle.binding_rules.specs.declared.role.Role.TheVariants.{Primary, Secondary}
use Rattle.volume_spans.specs.declared.spans.ReadSpans.{ReadSpans}
use Rattle.line_origins.specs.declared.finding.LineOrigin.{LineOrigin}
use Rattle.line_origins.specs.declared.spans.SpanOrigins.{SpanOrigins}
use Rattle.line_origins.specs.Parts.{parts_of, origin_in}

-- those of the volumes that were read
pub record AreOriginsOf (r : ReadSpans) (o : SpanOrigins) : Type 0 where
  pub primary : o.primary.items ≡ parts_of r.primary.volumes.items
  pub secondary : o.secondary.items ≡ parts_of r.secondary.volumes.items

-- the volume of a side's joined line, and its own number there
abbrev pub origin_over : SpanOrigins → Role → ℕ → Option LineOrigin
origin_over o Primary number = origin_in o.primary.items number
origin_over o Secondary number = origin_in o.secondary.items number

-- a side has several volumes
abbrev pub HasSeveral : SpanOrigins → Type 0
HasSeveral o = (1 < length o.primary.items) ⊎ (1 < length o.secondary.items)
