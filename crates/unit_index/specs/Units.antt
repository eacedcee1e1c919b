-- Units of a book, and the lowest of some.
use Rattle.std.specs.Prelude.{◌≡◌, ℕ, ◌≤◌, true, List, Option, Some, None}
use Rattle.prefix_range.specs.Prefix.{Prefix, IsPrefix}
use Rattle.binding_rules.specs.Giving.{is_own}
use Rattle.book_state.specs.Book.{BookState, IsUnit}
use Rattle.book_rules.specs.UnitRules.{IsActiveFor}

-- the prefix is a unit of the book's pools
pub record IsUnitOf (b : BookState) (p : Prefix) : Type 0 where
  pub whole : IsPrefix p
  pub unit : IsUnit b p

-- a unit that the server may give to any client
abbrev pub IsUsable : BookState → Prefix → Type 0
IsUsable b p = IsUnitOf b p × (is_own b.role (b.units p).status ≡ true)

-- a unit that the client has under this identity association
abbrev pub IsBoundTo : BookState → List ℕ → ℕ → Prefix → Type 0
IsBoundTo b client iaid p = IsUnitOf b p × IsActiveFor (b.units p) client iaid

-- the one with the least address
abbrev pub IsLowest : (Prefix → Type 0) → Prefix → Type 0
IsLowest P p = P p × ((q : Prefix) → P q → p.address ≤ q.address)

-- the one with the least address, if there is one
abbrev pub IsLeastOf : (Prefix → Type 0) → Option Prefix → Type 0
IsLeastOf P None = (q : Prefix) → P q → ⊥
IsLeastOf P (Some p) = IsLowest P p
