-- How far back a lease that may last at a moment may have begun, by the settings of the volumes that were read.
use Rattle.std.specs.Prelude.{◌≡◌, ◌≢◌, ℕ, ◌+◌, ◌*◌, ◌<◌, max, List, [], ◌∷◌, None, Option, Some, slice_get}
use Rattle.journal_lines.specs.declared.event.Event.{Event}
use Rattle.journal_lines.specs.declared.event.Event.TheVariants.{Open}
use Rattle.journal_lines.specs.declared.line.Line.{Line}
use Rattle.plain_search.specs.declared.query.HolderQuery.{HolderQuery}
use Rattle.volume_spans.specs.declared.reading.ReadVolume.{ReadVolume}
use Rattle.volume_spans.specs.declared.reader.SpanReader.{SpanReader}
use Rattle.volume_spans.specs.declared.spans.ReadSpans.{ReadSpans}
use Rattle.volume_spans.specs.Reading.{journal_in}
use Rattle.joined_answers.specs.declared.reach.LeaseBounds.{LeaseBounds}

abbrev pub no_bounds : LeaseBounds
no_bounds = record { lifetime = 0; lead_time = 0 }

-- what an open line says of leases
abbrev pub bounds_of : Event → LeaseBounds
bounds_of (Open skew mclt life) = record { lifetime = life; lead_time = mclt }
bounds_of _ = no_bounds

abbrev pub bounds_at : Option Line → LeaseBounds
bounds_at None = no_bounds
bounds_at (Some l) = bounds_of l.event

-- the first line of a volume says it
abbrev pub bounds_in : ReadVolume → LeaseBounds
bounds_in r = bounds_at (slice_get (journal_in r).lines 0)

-- the longest of each
abbrev pub longest : LeaseBounds → LeaseBounds → LeaseBounds
longest a b = record { lifetime = max a.lifetime b.lifetime; lead_time = max a.lead_time b.lead_time }

abbrev pub longest_in : LeaseBounds → List ReadVolume → LeaseBounds
longest_in bounds [] = bounds
longest_in bounds (r ∷ rs) = longest_in (longest bounds (bounds_in r)) rs

abbrev pub longest_of : ReadSpans → LeaseBounds
longest_of r = longest_in (longest_in no_bounds r.primary.volumes.items) r.secondary.volumes.items

-- The longest desired lifetime and the longest lead time (MCLT) of the volumes, and the margins of both servers, in
-- milliseconds.
abbrev pub reach_by : (skew transit : ℕ) → LeaseBounds → ℕ
reach_by skew transit bounds = 1000 * (bounds.lifetime + bounds.lead_time) + 2 * (2 * skew + transit)

abbrev pub reach : HolderQuery → ReadSpans → ℕ
reach q r = reach_by q.skew q.transit (longest_of r)

abbrev pub opening_of : Option ReadVolume → ℕ
opening_of None = 0
opening_of (Some r) = r.filed.outline.opened

-- A lease that may last at the moment may have begun before the span, and a volume is there before it.
abbrev pub MayBeginEarlier : (at reach : ℕ) → SpanReader → Type 0
MayBeginEarlier at reach s = (s.before ≢ None) × (at < opening_of (slice_get s.volumes.items 0) + reach)
