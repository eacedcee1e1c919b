-- Lists of lines, in order.
use Rattle.std.specs.Prelude.{◌≡◌, ◌↔◌, ℕ, ◌-◌, ◌<◌, List, length, Some, slice_get, Contains as Has}
use Rattle.causal_order.specs.declared.reference.Ref.{Ref}
use Rattle.causal_order.specs.WrittenOrder.{place_of}
use Rattle.causal_order.specs.LineOrder.{ComesBefore}

-- each line comes before those behind it: the primary's before the secondary's, and then by number
abbrev pub AreRising : List Ref → Type 0
AreRising refs = (i j : ℕ) (r s : Ref) → i < j → slice_get refs i ≡ Some r → slice_get refs j ≡ Some s → ComesBefore r s

-- the same lines, each once, in order
pub record AreOnce (refs once : List Ref) : Type 0 where
  pub same : (r : Ref) → Has refs r ↔ Has once r
  pub rising : AreRising once

-- exactly the lines of which P holds, each once, in order
pub record AreExactly (P : Ref → Type 0) (refs : List Ref) : Type 0 where
  pub all : (r : Ref) → P r → Has refs r
  pub only : (r : Ref) → Has refs r → P r
  pub once : AreRising refs

-- ---- for bodies

-- the line comes behind the last of these
abbrev pub ComesAfterLast : List Ref → Ref → Type 0
ComesAfterLast once r = (last : Ref) → slice_get once (length once - 1) ≡ Some last → place_of last < place_of r

-- one of the lines, and none of those
abbrev pub IsMissing : (refs those : List Ref) → Ref → Type 0
IsMissing refs those r = Has refs r × (Has those r → ⊥)
