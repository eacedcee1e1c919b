-- How far the partner is, by when the two were joined last; and whether it is heard.
use Rattle.std.specs.Prelude.{ℕ, ◌*◌, ◌-◌, nat_lt, nat_le, if◌then◌else◌, Bool, false, Option, Some, None}
use Rattle.std.specs.Time.{instant_nanos}
use Rattle.std.specs.declared.time.Instant.{Instant}
use Rattle.client_limits.specs.declared.partner_reach.PartnerReach.{PartnerReach}
use Rattle.client_limits.specs.declared.partner_reach.PartnerReach.TheVariants.{Near, Apart}
use Rattle.daemon_endpoints.specs.declared.partner_arrival.PartnerArrival.{PartnerArrival}
use Rattle.daemon_endpoints.specs.declared.partner_arrival.PartnerArrival.TheVariants.{Nothing, Event, Entered, Octets}

-- more than a minute has passed on the monotonic clock
abbrev pub reach_at : (joined now : Instant) → PartnerReach
reach_at joined now = if nat_lt (60 * 1000000000) (instant_nanos now - instant_nanos joined) then Apart else Near

-- when octets came last over a connection: none where it was let in since
abbrev pub heard_by : PartnerArrival → Option Instant → Option Instant
heard_by Nothing before = before
heard_by Event before = before
heard_by Entered before = None
heard_by (Octets at) before = Some at

-- octets came, and not more than so many seconds have passed since on the monotonic clock
abbrev pub is_heard_within : (heard : Option Instant) → (seconds : ℕ) → (now : Instant) → Bool
is_heard_within None seconds now = false
is_heard_within (Some heard) seconds now = nat_le (instant_nanos now - instant_nanos heard) (seconds * 1000000000)
