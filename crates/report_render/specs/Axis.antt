-- Where moments stand: in their order, and not to scale.
use Rattle.std.specs.Prelude.{ℕ, ◌+◌, ◌*◌, ◌/◌, ◌≤◌, nat_lt, if◌then◌else◌, List, [], ◌∷◌, length}
use Rattle.report_render.specs.declared.axis.TheConstants.{LEFT, WIDTH}

-- how many of the moments come before this one
abbrev pub below : List ℕ → ℕ → ℕ
below [] m = 0
below (a ∷ axis) m = if nat_lt a m then 1 + below axis m else below axis m

-- the share of the width that they have
abbrev pub place : List ℕ → ℕ → ℕ
place [] m = LEFT
place (a ∷ axis) m = LEFT + WIDTH * below (a ∷ axis) m / length (a ∷ axis)

-- a later moment stands no further left
abbrev pub PlacesKeepOrder : Type 0
PlacesKeepOrder = (axis : List ℕ) (m n : ℕ) → m ≤ n → place axis m ≤ place axis n

-- and each within the width
abbrev pub PlacesAreWithin : Type 0
PlacesAreWithin = (axis : List ℕ) (m : ℕ) → place axis m ≤ LEFT + WIDTH
