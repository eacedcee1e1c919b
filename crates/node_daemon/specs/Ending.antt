-- When a daemon ends leases that have ended: none that its partner may have renewed.
use Rattle.std.specs.Prelude.{◌≡◌, ◌⊎◌, ℕ, ◌*◌, Bool}
use Rattle.server_settings.specs.Settings.{ServerSettings}
use Rattle.server_core.specs.ServerStates.{CoreState}
use Rattle.server_clocks.specs.declared.clocks.Moment.{Moment}
use Rattle.daemon_endpoints.specs.Contact.{is_heard_within}
use Rattle.daemon_endpoints.specs.Receiving.{HasSameFiles}
use Rattle.daemon_endpoints.specs.declared.partner_contact.PartnerContact.{PartnerContact}
use Rattle.lease_expiry.specs.Expiring.{ends_by, lead, view_of, EndsBy}

-- Leases were ended by what the server knew at this moment: of a pair only where it had heard its partner within two
-- heartbeats, or took it for down.
abbrev pub EndsLeases : {P : Type 0} → (is_alone : Bool) → PartnerContact → (heartbeat : ℕ) → ServerSettings → Moment
    → CoreState P → CoreState P → Type 0
EndsLeases is_alone contact heartbeat settings now old new =
    EndsBy (ends_by (view_of is_alone (is_heard_within contact.heard (2 * heartbeat) now.instant) old) now.reading
    (lead settings.mclt settings.skew settings.transit)) now.reading old new

-- The same, or nothing was ended; and then at most a sign of life was given.
abbrev pub DoesDue : {P : Type 0} → (is_alone : Bool) → PartnerContact → (heartbeat : ℕ) → ServerSettings → Moment
    → CoreState P → CoreState P → Type 0
DoesDue {P} is_alone contact heartbeat settings now old new = (ended : CoreState P)
    × ((ended ≡ old) ⊎ EndsLeases is_alone contact heartbeat settings now old ended) × HasSameFiles ended new
