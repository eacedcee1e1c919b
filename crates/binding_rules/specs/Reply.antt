-- What a reply makes of a unit: it settles the due change that it accepts, or the mark of a unit that was seized.
use Rattle.std.specs.Prelude.{ℕ, Bool, true, false, ◌&&◌, ◌==◌, nat_lt, max, Option, Some, None, ◌+◌, if◌then◌else◌}
use Rattle.binding_rules.specs.declared.unit.Unit.{Unit as UnitValue}
use Rattle.binding_rules.specs.declared.update.Status.{Status}
use Rattle.binding_rules.specs.declared.update.Status.TheVariants.{Active, Expired, Released, Backup, Free, Seized}
use Rattle.binding_rules.specs.declared.update.BindReply.{BindReply}
use Rattle.binding_rules.specs.declared.update.Acknowledgement.{Acknowledgement}
use Rattle.binding_rules.specs.declared.update.Acknowledgement.TheVariants.{Accept, Reject}
use Rattle.binding_rules.specs.Unit.{freed}

abbrev pub is_accept : Acknowledgement → Bool
is_accept Accept = true
is_accept Reject = false

-- a reply counts where it accepts the unit's last change and is newer than what was seen
abbrev pub counts : UnitValue → BindReply → Bool
counts u r = is_accept r.acknowledgement && ((r.of == u.mine) && nat_lt u.seen r.mine)

-- What the unit becomes once the due change is acknowledged, by the kind of change.
abbrev pub settled : UnitValue → Status → UnitValue
settled u Active = record u { acked = max u.acked u.out_end; due = None }
settled u Expired = freed u
settled u Released = freed u
settled u Free = freed u
settled u Backup = record u { due = None }
settled u Seized = record u { due = None }

-- nothing where no change is due, or the reply doesn't count
abbrev pub after_reply_to : UnitValue → BindReply → Option Status → Option UnitValue
after_reply_to u r None = None
after_reply_to u r (Some due) = if counts u r then Some (record (settled u due) { seen = r.mine }) else None

-- the count of a unit once its mark is gone: a change that is due beside it counts anew
abbrev pub count_unmarked : UnitValue → Option Status → ℕ
count_unmarked u None = u.mine
count_unmarked u (Some due) = u.mine + 1

abbrev pub unmarked : UnitValue → BindReply → UnitValue
unmarked u r = record u { mine = count_unmarked u u.due; seen = r.mine; marked = false }

-- the mark stands for a change that is due
abbrev pub after_reply : UnitValue → BindReply → Option UnitValue
after_reply u r = if u.marked then (if counts u r then Some (unmarked u r) else None) else after_reply_to u r u.due
