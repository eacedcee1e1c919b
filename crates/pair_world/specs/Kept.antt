-- The invariant between the two servers at one unit.
use Rattle.std.specs.Prelude.{◌≡◌, ◌+◌, ◌*◌, ◌<◌, ◌≤◌, ◌∷◌, [], Bool, List, Option, Some, false, max, true, ℕ}
use Rattle.binding_rules.specs.declared.unit.UnitStatus.TheVariants.{Active}
use Rattle.binding_rules.specs.declared.unit.Binding.{Binding}
use Rattle.binding_rules.specs.declared.role.Role.TheVariants.{Primary, Secondary}
use Rattle.binding_rules.specs.declared.update.Status.TheVariants.{Released as ReleasedDue}
use Rattle.binding_rules.specs.declared.role.Role.{Role}
use Rattle.binding_rules.specs.declared.unit.UnitStatus.{UnitStatus}
use Rattle.binding_rules.specs.declared.unit.Unit.{Unit as UnitValue}
use Rattle.binding_rules.specs.declared.update.Update.{Update}
use Rattle.pair_world.specs.UnitWorld.{Contact, Entry, Gives, GivesBack, IsAlone, IsIn, Server, UnitSetting}
use Rattle.pair_world.specs.Said.{InCalm, InMark, Says, binding_of}
use Rattle.pair_world.specs.UnitSafe.{PartnerWaits, Runs}

-- the unit is delegated under this binding
abbrev pub IsActiveOf : UnitStatus → Binding → Type 0
IsActiveOf status k = status ≡ Active k

-- What x, and what is said to it, keeps of y.
pub record Waits (x y : Server) : Type 0 where
  -- while x is alone, y stands back
  pub law : PartnerWaits x y
  -- x was asked for no restart that hasn't happened
  pub asked_low : x.asked ≤ y.restart
  -- what x said asks for its own restarts and answers y's
  pub said_low : (c : Contact) → IsIn x.contacts c → (c.answer ≤ y.restart) × (c.ask ≤ x.restart)
  -- who waits has restarted
  pub numbered : y.waiting ≡ true → 1 ≤ y.restart

pub record Servers (x y : Server) : Type 0 where
  pub there : Waits x y
  pub back : Waits y x
  -- not both are alone
  pub one : IsAlone x → IsAlone y → ⊥

-- nothing in the log is yet to come
abbrev pub IsPast : ℕ → List Entry → Type 0
IsPast now [] = 0 ≤ now
IsPast now (Gives x holder moment valid ∷ es) = (moment ≤ now) × IsPast now es
IsPast now (GivesBack holder moment ∷ es) = (moment ≤ now) × IsPast now es

-- the maximum client lead time and the transit, in milliseconds
abbrev pub lead_of : UnitSetting → ℕ
lead_of s = 1000 * s.mclt + s.transit

-- Of a side's running grants: its unit, what the other says, since when the other takes it for down, and whether the
-- other has the unit marked.
pub record RunningGrantsEnd (s : UnitSetting) (now : ℕ) (log : List Entry) (side : Role) (u : UnitValue) (Told : Update → Type 0)
    (down : Option ℕ) (mark : Bool) : Type 0 where
  -- a running grant is the unit's binding's, and is over by the unit's own end, whatever the clock shows
  pub own_end : (k : Binding) (end : ℕ) → Runs s.transit log side k end → now < end
      → IsActiveOf u.status k × (end + s.skew ≤ u.own_end)
  -- where the other says that a client gave the unit back, having seen this side's last change, no grant to it runs
  pub released : (v : Update) → Told v → v.status ≡ ReleasedDue → v.seen ≡ u.mine
      → (end : ℕ) → Runs s.transit log side (binding_of v) end → end ≤ now
  -- a running grant ends within the lead of what was acknowledged, or of now
  pub lead : (k : Binding) (end : ℕ) → Runs s.transit log side k end → now < end
      → end ≤ max (u.acked + s.skew) now + lead_of s
  -- and of the reading since which the other takes this side for down
  pub lead_down : (d : ℕ) → down ≡ Some d → (k : Binding) (end : ℕ) → Runs s.transit log side k end → now < end
      → end ≤ max u.acked d + s.skew + lead_of s
  -- none runs of a unit that the other has marked
  pub none_marked : mark ≡ true → (k : Binding) (end : ℕ) → Runs s.transit log side k end → end ≤ now

-- At each moment, with what was granted and given back so far.
pub record PairKept (s : UnitSetting) (now : ℕ) (log : List Entry) (a b : Server) : Type 0 where
  pub calm : a.unit.marked ≡ false → b.unit.marked ≡ false → (k : Binding) → InCalm k a b
  pub marked_a : a.unit.marked ≡ true → (k : Binding) → InMark Primary k a b
  pub marked_b : b.unit.marked ≡ true → (k : Binding) → InMark Secondary k b a
  pub ends_a : RunningGrantsEnd s now log Primary a.unit (Says b) b.down b.unit.marked
  pub ends_b : RunningGrantsEnd s now log Secondary b.unit (Says a) a.down a.unit.marked
  pub servers : Servers a b
  pub past : IsPast now log
