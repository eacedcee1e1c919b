-- What comes from the partner, by what a read of its connection gives.
use Rattle.std.specs.Prelude.{◌≡◌, ⊤, ℕ, Bool, true, false}
use Rattle.std.specs.declared.time.Instant.{Instant}
use Rattle.daemon_io.specs.declared.connection.ReadOutcome.{ReadOutcome}
use Rattle.daemon_io.specs.declared.connection.ReadOutcome.TheVariants.{Octets as Read}
use Rattle.daemon_endpoints.specs.declared.handing.Arrived.{Arrived}
use Rattle.daemon_endpoints.specs.declared.handing.Arrived.TheVariants.{Octets as Came, Nothing as NoneCame, IdleSecond, End}
use Rattle.daemon_endpoints.specs.declared.partner_arrival.PartnerArrival.{PartnerArrival}
use Rattle.daemon_endpoints.specs.declared.partner_arrival.PartnerArrival.TheVariants.{Nothing, Event, Octets}

-- Octets come where a read gives some, and only there.
abbrev pub CameBy : ReadOutcome → Arrived → Type 0
CameBy (Read count) arrived = arrived ≡ Came
CameBy _ Came = ⊥
CameBy _ _ = ⊤

-- when the connection was heard
abbrev pub arrival_of : Instant → Arrived → PartnerArrival
arrival_of at Came = Octets at
arrival_of at End = Event
arrival_of at NoneCame = Nothing
arrival_of at IdleSecond = Nothing

-- whether anything came
abbrev pub is_something : PartnerArrival → Bool
is_something Nothing = false
is_something _ = true

-- where nothing came, but somebody who waits
abbrev pub or_waiting : (has_come : Bool) → PartnerArrival → PartnerArrival
or_waiting true Nothing = Event
or_waiting has_come arrival = arrival
