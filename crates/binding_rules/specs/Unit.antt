-- One delegable unit as one server sees it (RFC 8156, section 7.2: binding-status and what is kept with it).
use Rattle.std.specs.Prelude.{Bool, false, ◌&&◌, ◌==◌, None}
use Rattle.std.specs.Str.{bytes_eq}
use Rattle.binding_rules.specs.declared.unit.Binding.{Binding}
use Rattle.binding_rules.specs.declared.unit.UnitStatus.{UnitStatus}
use Rattle.binding_rules.specs.declared.unit.UnitStatus.TheVariants.{Free, FreeBackup, Active, Expired, Released}
use Rattle.binding_rules.specs.declared.unit.Unit.{Unit as UnitValue}
use Rattle.binding_rules.specs.declared.update.Status.{Status}
use Rattle.binding_rules.specs.declared.update.Status.TheVariants.{Active as ActiveKind, Expired as ExpiredKind}
use Rattle.binding_rules.specs.declared.update.Status.TheVariants.{Released as ReleasedKind, Backup as BackupKind}
use Rattle.binding_rules.specs.declared.update.Status.TheVariants.{Free as FreeKind}

-- the same client's same identity association
abbrev pub same_binding : Binding → Binding → Bool
same_binding a b = bytes_eq a.client b.client && (a.iaid == b.iaid)

-- what a unit is, whosever
abbrev pub status_of : UnitStatus → Status
status_of Free = FreeKind
status_of FreeBackup = BackupKind
status_of (Active k) = ActiveKind
status_of (Expired k) = ExpiredKind
status_of (Released k) = ReleasedKind

-- a unit as it is when the journal begins
abbrev pub fresh : UnitValue
fresh =
    record {
      status = Free;
      mine = 0;
      seen = 0;
      own_end = 0;
      out_end = 0;
      acked = 0;
      told = 0;
      due = None;
      pending = None;
      marked = false;
    }

-- a unit that is free again: its counters, its pending reply and its mark stay
abbrev pub freed : UnitValue → UnitValue
freed u =
    record {
      status = Free;
      mine = u.mine;
      seen = u.seen;
      own_end = 0;
      out_end = 0;
      acked = 0;
      told = 0;
      due = None;
      pending = u.pending;
      marked = u.marked;
    }

-- whether a unit is delegated under this binding
abbrev pub is_active_of : UnitStatus → Binding → Bool
is_active_of (Active k) b = same_binding k b
is_active_of _ b = false
