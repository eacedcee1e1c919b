-- Cases of the invariant.
use Rattle.std.specs.Prelude.{◌≡◌, Bool, true, false}
use Rattle.std.proofs.Common.{refl}
use Rattle.pair_world.specs.UnitWorld.{Server}

pub by_bool : {G : Type 0} (t : Bool) → (t ≡ true → G) → (t ≡ false → G) → G
by_bool true f g = f refl
by_bool false f g = g refl

-- marked at neither, or at one
pub by_modes : {G : Type 0} (a b : Server) → (a.unit.marked ≡ false → b.unit.marked ≡ false → G)
    → (a.unit.marked ≡ true → G) → (b.unit.marked ≡ true → G) → G
by_modes a b calm at_a at_b = by_bool a.unit.marked at_a (λ x. by_bool b.unit.marked at_b (λ y. calm x y))
