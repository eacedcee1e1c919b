-- Whether a server may serve, beside what its book and its clock say.
use Rattle.std.specs.Prelude.{◌≡◌, ◌⊎◌, ⊤, ℕ, ◌<◌, ◌-◌, ◌*◌, IsTrue, Bool, Option, Some}
use Rattle.std.specs.Time.{instant_nanos}
use Rattle.std.specs.declared.time.Instant.{Instant}
use Rattle.journal_lines.specs.declared.line.Journal.{Journal}
use Rattle.folder_start.specs.Pairing.{IsSurvivor}
use Rattle.failover_session.specs.declared.stage.SessionStage.{SessionStage}
use Rattle.failover_session.specs.declared.stage.SessionStage.TheVariants.{Short}
use Rattle.service_state.specs.declared.service.PartnerView.{PartnerView}
use Rattle.service_state.specs.declared.service.ServiceState.{ServiceState}
use Rattle.service_state.specs.declared.service.ServiceState.TheVariants.{Open, HoldsOff, Shut}

-- it serves, as its book lets it
abbrev pub IsOpen : ServiceState → Type 0
IsOpen service = service ≡ Open

-- it serves nobody any more
abbrev pub IsShut : ServiceState → Type 0
IsShut (Shut why) = ⊤
IsShut _ = ⊥

-- the session shows that the journal is short
abbrev pub IsShort : Option SessionStage → Type 0
IsShort (Some (Short named shortage)) = ⊤
IsShort _ = ⊥

-- more than 30 seconds have passed by the monotonic clock
abbrev pub IsOver : (since now : Instant) → Type 0
IsOver since now = 1000000 * 30000 < instant_nanos now - instant_nanos since

-- a server that holds off serves only where its partner said that it waits, or where the time is over
abbrev pub IsHeldOff : (since : Instant) → PartnerView → (now : Instant) → ServiceState → Type 0
IsHeldOff since partner now Open = IsTrue partner.waits ⊎ IsOver since now
IsHeldOff since partner now (HoldsOff still) = still ≡ since
IsHeldOff since partner now (Shut why) = IsOver since now

-- Once it is shut it stays so. Where the session shows that the journal is short it is shut.
abbrev pub IsNextService : ServiceState → ServiceState → PartnerView → (now : Instant) → Type 0
IsNextService (Shut why) new partner now = new ≡ Shut why
IsNextService Open new partner now = (IsShort partner.stage → IsShut new) × ((IsShort partner.stage → ⊥) → new ≡ Open)
IsNextService (HoldsOff since) new partner now =
    (IsShort partner.stage → IsShut new) × ((IsShort partner.stage → ⊥) → IsHeldOff since partner now new)

-- a survivor that has a partner holds off
abbrev pub IsAfterStart : Journal → (is_alone : Bool) → (now : Instant) → ServiceState → Type 0
IsAfterStart j is_alone now Open = IsTrue is_alone ⊎ (IsSurvivor j → ⊥)
IsAfterStart j is_alone now (HoldsOff since) = (since ≡ now) × IsSurvivor j
IsAfterStart j is_alone now (Shut why) = ⊥
