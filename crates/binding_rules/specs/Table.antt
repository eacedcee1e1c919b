-- The binding table: which updates a server accepts, and what they make of its unit. The names are those of RFC 8156;
-- the table is this project's own.
use Rattle.std.specs.Prelude.{ℕ, Bool, true, false, ◌+◌, ◌&&◌, ◌||◌, ◌==◌, nat_le, max, Option, Some, None, List}
use Rattle.std.specs.Prelude.{not, if◌then◌else◌}
use Rattle.binding_rules.specs.declared.role.Role.{Role}
use Rattle.binding_rules.specs.declared.role.Role.TheVariants.{Primary, Secondary}
use Rattle.binding_rules.specs.declared.unit.UnitStatus.{UnitStatus}
use Rattle.binding_rules.specs.declared.unit.UnitStatus.TheVariants.{Free, FreeBackup, Active, Expired, Released}
use Rattle.binding_rules.specs.declared.unit.Unit.{Unit as UnitValue}
use Rattle.binding_rules.specs.declared.update.Status.{Status}
use Rattle.binding_rules.specs.declared.update.Status.TheVariants.{Active as ActiveDue, Expired as ExpiredDue}
use Rattle.binding_rules.specs.declared.update.Status.TheVariants.{Released as ReleasedDue, Backup as BackupDue}
use Rattle.binding_rules.specs.declared.update.Status.TheVariants.{Free as FreeDue, Seized as SeizedDue}
use Rattle.binding_rules.specs.declared.update.Update.{Update}
use Rattle.binding_rules.specs.declared.update.Acknowledgement.{Acknowledgement}
use Rattle.binding_rules.specs.declared.update.Acknowledgement.TheVariants.{Accept as AcceptReply}
use Rattle.binding_rules.specs.declared.update.Acknowledgement.TheVariants.{Reject as RejectReply}
use Rattle.binding_rules.specs.declared.taking.Outcome.{Outcome}
use Rattle.binding_rules.specs.declared.taking.Outcome.TheVariants.{Accept, Reject, Drop}
use Rattle.binding_rules.specs.Unit.{same_binding, freed}

-- What an update says that the unit is: of an active, expired or released one, whose.
abbrev pub of_client : Status → List ℕ → ℕ → Option UnitStatus
of_client ActiveDue client iaid = Some (Active (record { client = client; iaid = iaid }))
of_client ExpiredDue client iaid = Some (Expired (record { client = client; iaid = iaid }))
of_client ReleasedDue client iaid = Some (Released (record { client = client; iaid = iaid }))
of_client BackupDue client iaid = Some FreeBackup
of_client FreeDue client iaid = Some Free
of_client SeizedDue client iaid = None

abbrev pub of_nobody : Status → Option UnitStatus
of_nobody BackupDue = Some FreeBackup
of_nobody FreeDue = Some Free
of_nobody _ = None

-- nothing where it should name a client and doesn't, and where the unit was seized: whose it is then, the role says
abbrev pub said_by : Update → Option (List ℕ) → Option UnitStatus
said_by m (Some client) = of_client m.status client m.iaid
said_by m None = of_nobody m.status

abbrev pub said : Update → Option UnitStatus
said m = said_by m m.client

abbrev pub at_primary : Role → Bool
at_primary Primary = true
at_primary Secondary = false

abbrev pub at_secondary : Role → Bool
at_secondary Primary = false
at_secondary Secondary = true

-- Whether the receiver, in this role and at this reading, accepts what an update says of its unit. First what is said,
-- then what the unit is.
abbrev pub accepts : Role → UnitValue → ℕ → Update → UnitStatus → UnitStatus → Bool
accepts role u now m (Active k) Free = at_secondary role
accepts role u now m (Active k) FreeBackup = at_primary role
accepts role u now m (Active k) (Active j) = same_binding j k
accepts role u now m (Active k) (Expired j) = false
accepts role u now m (Active k) (Released j) = false
accepts role u now m (Expired k) Free = at_secondary role
accepts role u now m (Expired k) FreeBackup = at_primary role
accepts role u now m (Expired k) (Active j) = same_binding j k && nat_le u.own_end now
accepts role u now m (Expired k) (Expired j) = true
accepts role u now m (Expired k) (Released j) = true
accepts role u now m (Released k) Free = at_secondary role
accepts role u now m (Released k) FreeBackup = at_primary role
accepts role u now m (Released k) (Active j) = same_binding j k && (nat_le u.own_end now || (m.seen == u.mine))
accepts role u now m (Released k) (Expired j) = true
accepts role u now m (Released k) (Released j) = true
accepts role u now m FreeBackup Free = at_secondary role && (m.seen == u.mine)
accepts role u now m FreeBackup _ = false
accepts role u now m Free Free = at_secondary role
accepts role u now m Free FreeBackup = at_secondary role
accepts role u now m Free _ = false

abbrev pub accepts_said : Role → UnitValue → ℕ → Update → Option UnitStatus → Bool
accepts_said role u now m (Some s) = accepts role u now m s u.status
accepts_said role u now m None = false

-- that a unit was seized is accepted where the receiver waits
abbrev pub accepts_by : Status → Role → UnitValue → ℕ → Bool → Update → Bool
accepts_by SeizedDue role u now waiting m = waiting
accepts_by _ role u now waiting m = accepts_said role u now m (said m)

-- a unit that the receiver seized takes no update
abbrev pub is_accepted : Role → UnitValue → ℕ → Bool → Update → Bool
is_accepted role u now waiting m = not u.marked && accepts_by m.status role u now waiting m

-- a due change to active stays, any other is removed
abbrev pub kept_due : Option Status → Option Status
kept_due (Some ActiveDue) = Some ActiveDue
kept_due _ = None

-- What the unit becomes where that is accepted, its counters and its reply apart.
abbrev pub becomes : UnitValue → Update → UnitStatus → UnitValue
becomes u m (Active k) = record u { status = Active k; told = max u.told m.end; due = kept_due u.due }
becomes u m (Expired k) = freed u
becomes u m (Released k) = freed u
becomes u m FreeBackup = record u { status = FreeBackup }
becomes u m Free = freed u

abbrev pub becomes_said : UnitValue → Update → Option UnitStatus → UnitValue
becomes_said u m (Some s) = becomes u m s
becomes_said u m None = u

-- free for the other server to give
abbrev pub partners_pool : Role → UnitStatus
partners_pool Primary = FreeBackup
partners_pool Secondary = Free

-- the unit once the update is accepted, its counters and its reply apart
abbrev pub taken_by : Status → Role → UnitValue → Update → UnitValue
taken_by SeizedDue role u m = record (freed u) { status = partners_pool role }
taken_by _ role u m = becomes_said u m (said m)

-- the unit with the reply to an update: of the update's count, with the unit's counters
abbrev pub answered : UnitValue → Update → Acknowledgement → UnitValue
answered u m how =
    record u {
      pending = Some
          (record { acknowledgement = how; prefix = m.prefix; of = m.mine; mine = u.mine; seen = u.seen });
    }

-- each accepted update counts as a change of the receiver's own, and is seen
abbrev pub counted : UnitValue → Update → UnitValue
counted u m = record u { mine = u.mine + 1; seen = m.mine }

abbrev pub accepted : Role → UnitValue → Update → UnitValue
accepted role u m = answered (counted (taken_by m.status role u m) m) m AcceptReply

-- What is not newer than what was seen is dropped, and changes nothing. What is rejected changes the reply alone.
abbrev pub outcome_of : Role → UnitValue → ℕ → Bool → Update → Outcome
outcome_of role u now waiting m =
    if nat_le m.mine u.seen then Drop else (if is_accepted role u now waiting m then Accept else Reject)

abbrev pub after_update : Role → UnitValue → ℕ → Bool → Update → UnitValue
after_update role u now waiting m =
    if nat_le m.mine u.seen
    then u
    else (if is_accepted role u now waiting m then accepted role u m else answered u m RejectReply)
