-- What is delegated to a client, as journals tell of it.
use Rattle.std.specs.Prelude.{Option, Some, None}
use Rattle.journal_lines.specs.declared.event.Event.{Event}
use Rattle.journal_lines.specs.declared.event.Event.TheVariants.{Grant, Carry}
use Rattle.journal_lines.specs.declared.event.Lease.{Lease}
use Rattle.journal_lines.specs.declared.kept.Carried.{Carried}
use Rattle.attribution.specs.declared.delegation.Delegation.{Delegation}
use Rattle.attribution.specs.declared.delegation.Lasting.TheVariants.{For, Until}

abbrev pub of_lease : Lease → Delegation
of_lease g = record { client = g.client; iaid = g.iaid; prefix = g.prefix; lasting = For g.valid }

abbrev pub of_carried : Carried → Delegation
of_carried c = record { client = c.client; iaid = c.iaid; prefix = c.prefix; lasting = Until c.end }

-- the delegation that an event tells of: grants do, and carry lines
abbrev pub told_by : Event → Option Delegation
told_by (Grant g) = Some (of_lease g)
told_by (Carry c) = Some (of_carried c)
told_by _ = None
