-- For bodies only: what a search needs to know of a unit, or of some units at once.
use Rattle.std.specs.Prelude.{ℕ, Bool, true, false, ◌||◌, not, nat_le, min, max, Option, Some, None, is_some}
use Rattle.binding_rules.specs.declared.role.Role.{Role}
use Rattle.binding_rules.specs.declared.unit.UnitStatus.{UnitStatus}
use Rattle.binding_rules.specs.declared.unit.UnitStatus.TheVariants.{Active}
use Rattle.binding_rules.specs.declared.unit.Unit.{Unit as UnitValue}
use Rattle.binding_rules.specs.Giving.{is_own}
use Rattle.unit_index.specs.declared.unit_kinds.UnitKinds.{UnitKinds}
use Rattle.unit_index.specs.declared.searching.UnitQuery.{UnitQuery}
use Rattle.unit_index.specs.declared.searching.UnitQuery.TheVariants.{Usable, Expirable, Seizable, Pending}
use Rattle.unit_index.specs.declared.searching.UnitQuery.TheVariants.{Due, Marked, Overcounted}

-- an active unit may be expired from here on
abbrev pub ends_by : UnitStatus → UnitValue → Option ℕ
ends_by (Active k) u = Some (max u.own_end u.told)
ends_by _ u = None

abbrev pub kinds_of : Role → UnitValue → UnitKinds
kinds_of role u =
    record {
      usable = is_own role u.status;
      taken = not (is_own role u.status);
      pending = is_some u.pending;
      due = is_some u.due;
      marked = u.marked;
      ends = ends_by u.status u;
    }

-- of no unit
abbrev pub nothing : UnitKinds
nothing =
    record {
      usable = false;
      taken = false;
      pending = false;
      due = false;
      marked = false;
      ends = None;
    }

abbrev pub earlier : Option ℕ → Option ℕ → Option ℕ
earlier None o = o
earlier (Some e) None = Some e
earlier (Some e) (Some f) = Some (min e f)

-- of the units of both
abbrev pub joined : UnitKinds → UnitKinds → UnitKinds
joined a b =
    record {
      usable = a.usable || b.usable;
      taken = a.taken || b.taken;
      pending = a.pending || b.pending;
      due = a.due || b.due;
      marked = a.marked || b.marked;
      ends = earlier a.ends b.ends;
    }

abbrev pub is_by : ℕ → Option ℕ → Bool
is_by now None = false
is_by now (Some e) = nat_le e now

-- whether one of the units may be what is wanted
abbrev pub may_be : UnitQuery → UnitKinds → Bool
may_be Usable m = m.usable
may_be (Expirable now) m = is_by now m.ends
may_be (Seizable now) m = m.taken
may_be Pending m = m.pending
may_be Due m = m.due
may_be Marked m = m.marked
may_be Overcounted m = true
