-- For bodies only: the order in which entries are found by the line that they name.
use Rattle.std.specs.Prelude.{ℕ, ◌+◌, ◌<◌, ◌^◌, List, length, All, Option, Some, None, slice_get, Contains as Has}
use Rattle.std.specs.List.Sorted.{IsNonDecreasingBy}
use Rattle.binding_rules.specs.declared.role.Role.{Role}
use Rattle.binding_rules.specs.declared.role.Role.TheVariants.{Primary, Secondary}
use Rattle.causal_order.specs.declared.reference.Ref.{Ref}

-- the place of a line among all, from 1: the primary's before the secondary's, and then by number
abbrev pub place_on : Role → ℕ → ℕ
place_on Primary number = 1 + number
place_on Secondary number = 1 + number + 2 ^ 32

abbrev pub place_of : Ref → ℕ
place_of r = place_on r.side r.number

abbrev pub place_in : {T : Type 0} → (T → Ref) → Option T → ℕ
place_in named None = 0
place_in named (Some x) = place_of (named x)

-- that of the line that an entry names, or 0 where there is none
abbrev pub place_at : {T : Type 0} → (T → Ref) → List T → ℕ → ℕ
place_at named entries k = place_in named (slice_get entries k)

-- the index of each entry, in the order of the lines that they name
pub record IsOrder {T : Type 0} (named : T → Ref) (entries : List T) (order : List ℕ) : Type 0 where
  pub short : All (λ x. (named x).number < 2 ^ 32) entries
  pub within : All (λ k. k < length entries) order
  pub whole : (k : ℕ) → k < length entries → Has order k
  pub sorted : IsNonDecreasingBy (place_at named entries) order
