-- What a status says of a server that runs.
use Rattle.std.specs.Prelude.{◌≡◌, ⊤, ℕ, Bool, true, false, Option, Some, None}
use Rattle.server_status.specs.declared.status.PartnerState.{PartnerState}
use Rattle.server_status.specs.declared.status.PartnerState.TheVariants.{Normal, Waiting, Down}
use Rattle.service_state.specs.declared.service.ServiceState.{ServiceState}
use Rattle.service_state.specs.declared.service.ServiceState.TheVariants.{HoldsOff}

-- it has begun again with a book that isn't calm, and goes on later
abbrev pub IsHoldingOff : ServiceState → Type 0
IsHoldingOff (HoldsOff since) = ⊤
IsHoldingOff _ = ⊥

-- what it takes its partner for, by its book: down since a reading, or whether it waits for it
abbrev pub IsStanding : Option ℕ → Bool → PartnerState → Type 0
IsStanding (Some since) waits standing = standing ≡ Down since
IsStanding None true standing = (since : ℕ) × (standing ≡ Waiting since)
IsStanding None false standing = standing ≡ Normal
