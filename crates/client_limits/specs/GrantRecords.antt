-- Of which grants there are access records.
use Rattle.std.specs.Prelude.{◌≡◌, ℕ, Bool, Option, is_some}
use Rattle.std.specs.Ordering.{nat_cmp}
use Rattle.std.specs.BTreeMap.{get}
use Rattle.client_limits.specs.declared.grant_records.GrantRecords.{GrantRecords}

-- the link of the record of the last grant of the unit that begins at an address, if there is one
abbrev pub record_of : GrantRecords → ℕ → Option (Option ℕ)
record_of r address = get nat_cmp r.links address

-- there is one
abbrev pub is_recorded : GrantRecords → ℕ → Bool
is_recorded r address = is_some (record_of r address)

abbrev pub HasSameRecords : GrantRecords → GrantRecords → Type 0
HasSameRecords old new = (address : ℕ) → record_of new address ≡ record_of old address
