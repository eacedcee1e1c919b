-- Running grants: each is of the unit's binding and ends in time, and no release that is news speaks of one.
use Rattle.std.specs.Prelude.{◌≡◌, ℕ, ◌+◌, ◌*◌, ◌<◌, ◌≤◌, List, [], ◌∷◌}
use Rattle.std.proofs.Common.{arith, inl, inr, refl, sym, ◌∙◌}
use Rattle.pair_world.specs.Kept.{IsActiveOf, IsPast}
use Rattle.binding_rules.specs.declared.unit.UnitStatus.TheVariants.{Active}
use Rattle.binding_rules.specs.declared.unit.Binding.{Binding}
use Rattle.pair_world.specs.UnitWorld.{Entry, Gives, GivesBack}
use Rattle.pair_world.specs.UnitSafe.{HasUnit, Runs}
use Rattle.binding_rules.specs.declared.role.Role.{Role}
use Rattle.binding_rules.specs.declared.unit.UnitStatus.{UnitStatus}

pub past_on : (log : List Entry) (now n : ℕ) → IsPast now log → IsPast (now + n) log
past_on [] now n h = omega arith
past_on (Gives x holder moment valid ∷ es) now n h = let a = h.0 in (omega arith, past_on es now n h.1)
past_on (GivesBack holder moment ∷ es) now n h = let a = h.0 in (omega arith, past_on es now n h.1)

-- what holds now or later runs now
pub held_runs : (transit now m : ℕ) (log : List Entry) (k : Binding) → IsPast now log → now ≤ m
    → HasUnit transit log k m
    → (side : Role) × (end : ℕ) × Runs transit log side k end × (m < end)
held_runs transit now m [] k past le h = absurd h
held_runs transit now m (Gives x holder moment valid ∷ es) k past le (inl h) =
    (x, moment + 1000 * valid + transit, inl (refl, h.0, refl), h.2)
held_runs transit now m (Gives x holder moment valid ∷ es) k past le (inr h) = let r =
    held_runs transit now m es k past.1 le h in (r.0, r.1, inr r.2, r.3)
held_runs transit now m (GivesBack holder moment ∷ es) k past le h =
    let r = held_runs transit now m es k past.1 le h.1 in
    let before = past.0 in
    (r.0, r.1, ((λ e. h.0 e (omega arith)), r.2), r.3)

pub active_once : (status : UnitStatus) (j k : Binding) → IsActiveOf status j → IsActiveOf status k → j ≡ k
active_once status j k x y = let same : Active j ≡ Active k = sym x ∙ y in cc
