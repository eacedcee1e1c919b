-- Which units of a book wait for something to be done.
use Rattle.std.specs.Prelude.{◌≡◌, ◌≢◌, ℕ, ◌≤◌, true, Option, Some, None}
use Rattle.prefix_range.specs.Prefix.{Prefix}
use Rattle.binding_rules.specs.declared.unit.Unit.{Unit as UnitValue}
use Rattle.binding_rules.specs.declared.update.Status.TheVariants.{Active}
use Rattle.binding_rules.specs.Unit.{status_of}
use Rattle.book_state.specs.Book.{BookState}
use Rattle.book_rules.specs.UnitRules.{IsSeizable}
use Rattle.unit_index.specs.Units.{IsUnitOf}

-- no lease of the unit that the server knows of lasts at this reading
abbrev pub MayExpire : ℕ → UnitValue → Type 0
MayExpire now u = (status_of u.status ≡ Active) × (u.own_end ≤ now) × (u.told ≤ now)

-- ---- of all units

abbrev pub IsToExpire : BookState → ℕ → Prefix → Type 0
IsToExpire b now p = IsUnitOf b p × MayExpire now (b.units p)

abbrev pub IsToSeize : BookState → ℕ → Prefix → Type 0
IsToSeize b now p = IsUnitOf b p × IsSeizable b now (b.units p) b.down

-- the first reading at which one may be expired, if one may be at all
abbrev pub IsFirstExpiry : BookState → Option ℕ → Type 0
IsFirstExpiry b None = (now : ℕ) (p : Prefix) → IsToExpire b now p → ⊥
IsFirstExpiry b (Some end) =
    ((p : Prefix) × IsToExpire b end p) × ((now : ℕ) (p : Prefix) → IsToExpire b now p → end ≤ now)

-- ---- from an address on

abbrev pub HasReply : BookState → ℕ → Prefix → Type 0
HasReply b from p = IsUnitOf b p × ((b.units p).pending ≢ None) × (from ≤ p.address)

abbrev pub HasChange : BookState → ℕ → Prefix → Type 0
HasChange b from p = IsUnitOf b p × ((b.units p).due ≢ None) × (from ≤ p.address)

abbrev pub HasMark : BookState → ℕ → Prefix → Type 0
HasMark b from p = IsUnitOf b p × ((b.units p).marked ≡ true) × (from ≤ p.address)
