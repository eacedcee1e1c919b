-- Where moments stand.
use Rattle.std.proofs.Common.{◌≡◌, ℕ, zero, suc, ◌+◌, ◌*◌, ◌/◌, ◌<◌, ◌≤◌, List, [], ◌∷◌, length, get_or, ap, ◌∙◌, arith}
use Rattle.std.proofs.Math.Nat.{div-mul-le_self, div-le_of_le-mul}
use Rattle.std.proofs.lemmas.Nat.{le-div}
use Rattle.std.proofs.lemmas.Bool.Decides.{nat_tests}
use Rattle.report_render.specs.declared.axis.TheConstants.{WIDTH}
use Rattle.report_render.specs.Axis.{below, PlacesKeepOrder, PlacesAreWithin}

below_yes : (a : ℕ) (axis : List ℕ) (m : ℕ) → a < m → below (a ∷ axis) m ≡ 1 + below axis m
below_yes a axis m h = grind (arith, nat_tests)

below_no : (a : ℕ) (axis : List ℕ) (m : ℕ) → m ≤ a → below (a ∷ axis) m ≡ below axis m
below_no a axis m h = grind (arith, nat_tests)

-- what all before an index come before, and none from it on, has so many before it
pub below_is : (axis : List ℕ) (m i : ℕ) → i ≤ length axis
    → ((k : ℕ) (d : ℕ) → k < i → get_or axis k d < m)
    → ((k : ℕ) (d : ℕ) → i ≤ k → k < length axis → m ≤ get_or axis k d) → below axis m ≡ i
below_is [] m i h before rest = omega arith
below_is (a ∷ axis) m zero h before rest =
    below_no a axis m (rest 0 0 (omega arith) (omega arith))
    ∙ below_is axis m 0 (omega arith) (λ k d below_k. absurd (omega arith)) (λ k d from to. rest (suc k) d (omega arith) (omega arith))
below_is (a ∷ axis) m (suc j) h before rest =
    below_yes a axis m (before 0 0 (omega arith))
    ∙ (ap (λ n. 1 + n) (below_is axis m j (omega arith) (λ k d below_k. before (suc k) d (omega arith))
    (λ k d from to. rest (suc k) d (omega arith) (omega arith))) ∙ omega arith)

pub below_within : (axis : List ℕ) (m : ℕ) → below axis m ≤ length axis
below_within [] m = omega arith
below_within (a ∷ axis) m = grind (arith, nat_tests, below_within axis m)

below_order : (axis : List ℕ) (m n : ℕ) → m ≤ n → below axis m ≤ below axis n
below_order [] m n h = omega arith
below_order (a ∷ axis) m n h = grind (arith, nat_tests, below_order axis m n h)

div_order : (a b k : ℕ) → 0 < k → a ≤ b → a / k ≤ b / k
div_order a b k h less = le-div (a / k) b k h (omega (arith, div-mul-le_self a k))

pub keep_order : PlacesKeepOrder
keep_order [] m n h = omega arith
keep_order (a ∷ axis) m n h =
    let order = below_order (a ∷ axis) m n h in
    let shares : (WIDTH * below (a ∷ axis) m) / length (a ∷ axis) ≤ (WIDTH * below (a ∷ axis) n) / length (a ∷ axis) =
    div_order (WIDTH * below (a ∷ axis) m) (WIDTH * below (a ∷ axis) n) (length (a ∷ axis)) (omega arith) (omega arith) in
    omega arith

pub are_within : PlacesAreWithin
are_within [] m = omega arith
are_within (a ∷ axis) m =
    let within = below_within (a ∷ axis) m in
    let share : (WIDTH * below (a ∷ axis) m) / length (a ∷ axis) ≤ WIDTH =
    div-le_of_le-mul (length (a ∷ axis)) (omega arith) in
    omega arith
