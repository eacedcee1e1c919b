-- Which units a server may give (RFC 8156, section 4.2.2: FREE is the primary's to give, FREE-BACKUP the secondary's).
use Rattle.std.specs.Prelude.{ℕ, Bool, true, false, List}
use Rattle.binding_rules.specs.declared.role.Role.{Role}
use Rattle.binding_rules.specs.declared.role.Role.TheVariants.{Primary, Secondary}
use Rattle.binding_rules.specs.declared.unit.UnitStatus.{UnitStatus}
use Rattle.binding_rules.specs.declared.unit.UnitStatus.TheVariants.{Free, FreeBackup}
use Rattle.binding_rules.specs.declared.unit.Unit.{Unit as UnitValue}
use Rattle.binding_rules.specs.Unit.{is_active_of}

-- whether the unit is this server's to give
abbrev pub is_own : Role → UnitStatus → Bool
is_own Primary Free = true
is_own Secondary FreeBackup = true
is_own _ _ = false

-- whether the unit is delegated to this client under this identity association
abbrev pub is_active_for : UnitValue → List ℕ → ℕ → Bool
is_active_for u client iaid = is_active_of u.status (record { client = client; iaid = iaid })
