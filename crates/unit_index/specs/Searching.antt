-- The lowest unit of a kind.
use Rattle.std.specs.Prelude.{◌≡◌, ◌≢◌, ℕ, ◌^◌, ◌<◌, ◌≤◌, nat_le, true, Option, Some, None, if◌then◌else◌}
use Rattle.prefix_range.specs.Prefix.{Prefix}
use Rattle.binding_rules.specs.declared.unit.Unit.{Unit as UnitValue}
use Rattle.binding_rules.specs.Giving.{is_own}
use Rattle.book_state.specs.declared.pool.Pool.{Pool}
use Rattle.book_state.specs.Book.{BookState, is_in}
use Rattle.book_rules.specs.UnitRules.{IsSeizable}
use Rattle.unit_index.specs.declared.searching.UnitQuery.{UnitQuery}
use Rattle.unit_index.specs.declared.searching.UnitQuery.TheVariants.{Usable, Expirable, Seizable, Pending}
use Rattle.unit_index.specs.declared.searching.UnitQuery.TheVariants.{Due, Marked, Overcounted}
use Rattle.unit_index.specs.Units.{IsUnitOf}
use Rattle.unit_index.specs.Queries.{MayExpire}

abbrev pub MatchesQuery : BookState → UnitQuery → UnitValue → Type 0
MatchesQuery b Usable u = is_own b.role u.status ≡ true
MatchesQuery b (Expirable now) u = MayExpire now u
MatchesQuery b (Seizable now) u = IsSeizable b now u b.down
MatchesQuery b Pending u = u.pending ≢ None
MatchesQuery b Due u = u.due ≢ None
MatchesQuery b Marked u = u.marked ≡ true
MatchesQuery b Overcounted u = 2 ^ 48 < u.mine

abbrev pub IsSome : BookState → UnitQuery → Prefix → Type 0
IsSome b w p = IsUnitOf b p × MatchesQuery b w (b.units p)

-- of the units from an address on
abbrev pub IsThere : BookState → UnitQuery → ℕ → Prefix → Type 0
IsThere b w from p = IsUnitOf b p × MatchesQuery b w (b.units p) × (from ≤ p.address)

abbrev pub IsThereIn : BookState → UnitQuery → ℕ → Pool → Prefix → Type 0
IsThereIn b w from pool p = (is_in pool p ≡ true) × IsThere b w from p

abbrev pub lower_of : Option Prefix → Option Prefix → Option Prefix
lower_of None o = o
lower_of (Some p) None = Some p
lower_of (Some p) (Some q) = if nat_le p.address q.address then Some p else Some q
