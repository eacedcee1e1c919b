-- What every world of one unit keeps: pair safety at one unit, and the two laws of a server whose partner is down.
use Rattle.std.specs.Prelude.{◌≡◌, ◌≢◌, ℕ, ◌+◌, ◌*◌, ◌<◌, ◌≤◌, ◌⊎◌, true, false, List, [], ◌∷◌, max, Some}
use Rattle.binding_rules.specs.declared.role.Role.{Role}
use Rattle.binding_rules.specs.Role.{partner_of}
use Rattle.binding_rules.specs.declared.unit.Binding.{Binding}
use Rattle.binding_rules.specs.declared.update.Status.TheVariants.{Active as ActiveDue}
use Rattle.binding_rules.specs.Unit.{status_of}
use Rattle.binding_rules.specs.Giving.{is_own}
use Rattle.pair_world.specs.UnitWorld.{UnitSetting, Entry, Gives, GivesBack, Contact, Server, UnitWorld, UnitEvent}
use Rattle.pair_world.specs.UnitWorld.{start, server}
use Rattle.pair_world.specs.UnitWorld.{IsIn, IsAlone, MayHappen, world_after}

-- some grant to the binding has begun by m and lasts past m, with the transit, and no release stands between it and m
abbrev pub HasUnit : (transit : ℕ) → List Entry → Binding → ℕ → Type 0
HasUnit transit [] k m = ⊥
HasUnit transit (Gives side holder moment valid ∷ es) k m =
    ((holder ≡ k) × (moment ≤ m) × (m < moment + 1000 * valid + transit)) ⊎ HasUnit transit es k m
HasUnit transit (GivesBack holder moment ∷ es) k m = (holder ≡ k → moment ≤ m → ⊥) × HasUnit transit es k m

-- the side granted the unit to the binding, the grant ends then at the latest, and no release of it stands
abbrev pub Runs : (transit : ℕ) → List Entry → Role → Binding → (end : ℕ) → Type 0
Runs transit [] side k end = ⊥
Runs transit (Gives x holder moment valid ∷ es) side k end =
    ((x ≡ side) × (holder ≡ k) × (end ≡ moment + 1000 * valid + transit)) ⊎ Runs transit es side k end
Runs transit (GivesBack holder moment ∷ es) side k end = (holder ≡ k → ⊥) × Runs transit es side k end

-- at each moment, past or to come, no two bindings have the unit
abbrev pub OneHolder : Type 0
OneHolder =
    (s : UnitSetting) (es : List UnitEvent) → MayHappen s start es
    → (m : ℕ) (j k : Binding) → HasUnit s.transit (world_after s start es).log j m
    → HasUnit s.transit (world_after s start es).log k m → j ≡ k

-- While x is alone, y is stopped, or waits and no contact that x sent so far answers its restart.
abbrev pub PartnerWaits : (x y : Server) → Type 0
PartnerWaits x y =
    IsAlone x
    → (y.stopped ≡ true) ⊎ ((y.waiting ≡ true) × ((c : Contact) → IsIn x.contacts c → c.answer ≢ y.restart))

-- Where the unit is active at y, and at x unmarked and outside x's own pool, what y has acknowledged x was told.
abbrev pub IsAckTold : (side : Role) (x y : Server) → Type 0
IsAckTold side x y =
    status_of y.unit.status ≡ ActiveDue → x.unit.marked ≡ false → is_own side x.unit.status ≡ false
    → y.unit.acked ≤ x.unit.told

-- So while x takes y for down, y's grants of the unit end in time.
abbrev pub EndsInTime : UnitSetting → (side : Role) → UnitWorld → Type 0
EndsInTime s side w =
    (d : ℕ) → (server side w).down ≡ Some d → (server side w).unit.marked ≡ false
    → is_own side (server side w).unit.status ≡ false
    → (k : Binding) (end : ℕ) → Runs s.transit w.log (partner_of side) k end → w.now < end
    → end ≤ max (server side w).unit.told d + 1000 * s.mclt + s.skew + s.transit

abbrev pub PartnerDownLaws : Type 0
PartnerDownLaws =
    (s : UnitSetting) (es : List UnitEvent) → MayHappen s start es → (side : Role)
    → PartnerWaits (server side (world_after s start es)) (server (partner_of side) (world_after s start es))
    × IsAckTold side (server side (world_after s start es)) (server (partner_of side) (world_after s start es))
    × EndsInTime s side (world_after s start es)
